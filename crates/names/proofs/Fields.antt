-- Walks over the fields of a line: the pieces that tabs part.
use mathlib.Core.Path.{◌≡◌, sym, ◌∙◌}
use mathlib.Core.Bool.{Bool, true, false}
use mathlib.Core.List.{List, [], ◌∷◌}
use mathlib.Core.Option.{none, some}
use Rattle.std.specs.Prelude.{Option, Some}
use Prim.Native.Nat.{ℕ, suc, ◌+◌, ◌-◌, ◌≤◌, ◌<◌}
use native.Mathlib.Numerals.{add-one}
use native.Mathlib.Omega.{arith}
use lib.ListN.{length, get_or, take, drop}
use Rattle.meaning.specs.Text.{Bytes, all, same_name, cut, tab}
use Rattle.meaning.specs.Deciding.{value_of}
use Rattle.laws.proofs.Bools.{Test, passed, failed, test, never}
use Rattle.laws.specs.Found.{found}
use Rattle.text.proofs.Pieces.{piece_last, piece_more, piece_at_lem}

-- e is where the field that starts at `at` ends
module _ (s : Bytes) (at e : ℕ) (p : e ≡ at + length (get_or (cut tab (drop at s)) 0 [])) where
  -- a test of every field
  module _ (t : Bytes → Bool) where
    pub every_bad : e ≤ length s → t (take (e - at) (drop at s)) ≡ false → all t (cut tab (drop at s)) ≡ false
    every_bad q f = rw (piece_at_lem tab s at e p q, f)

    pub every_end : e ≡ length s → t (take (e - at) (drop at s)) ≡ true → all t (cut tab (drop at s)) ≡ true
    every_end l f = rw (piece_last tab s at e p l, f)

    pub every_more : e < length s → t (take (e - at) (drop at s)) ≡ true → all t (cut tab (drop at s)) ≡ all t (cut tab (drop (e + 1) s))
    every_more l f = rw (piece_more tab s at e p l, f)

  -- the place of a name, where field n starts at `at`
  module _ (name : Bytes) (n : ℕ) where
    pub place_hit : e ≤ length s → same_name name (take (e - at) (drop at s)) ≡ true → value_of n name (cut tab (drop at s)) ≡ some n
    place_hit q f = rw (piece_at_lem tab s at e p q, f)

    pub place_end : e ≡ length s → same_name name (take (e - at) (drop at s)) ≡ false → value_of n name (cut tab (drop at s)) ≡ none
    place_end l f = rw (piece_last tab s at e p l, f)

    pub place_more : e < length s → same_name name (take (e - at) (drop at s)) ≡ false → value_of n name (cut tab (drop at s)) ≡ value_of (n + 1) name (cut tab (drop (e + 1) s))
    place_more l f = rw (piece_more tab s at e p l, f, add-one n)

-- A place is below the number of names
pub found_within : (name : Bytes) (fs : List Bytes) (r : Option ℕ) → r ≡ found (value_of 0 name fs) → (v : ℕ) → r ≡ Some v → v < length fs
found_within name fs r e v h = let d = below 0 fs (sym e ∙ h) in omega arith
  where
    below : (n : ℕ) (fs : List Bytes) → found (value_of n name fs) ≡ Some v → v < n + length fs
    below n [] i = never (cc)
    below n (f ∷ fs) i = go (test (same_name name f)) (below (suc n) fs)
      where
        go : Test (same_name name f) → (found (value_of (suc n) name fs) ≡ Some v → v < suc n + length fs) → v < n + length (f ∷ fs)
        go (passed t) later = let at : Some n ≡ Some v = rw t at i in let d : n ≡ v = cc in omega arith
        go (failed t) later = let d = later (rw t at i) in omega arith
