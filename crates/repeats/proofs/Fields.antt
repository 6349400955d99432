-- A field that stands twice, as the code that compares each field with those behind it finds it.
use mathlib.Core.Path.{◌≡◌, refl}
use mathlib.Core.Bool.{Bool, true, false, not}
use mathlib.Core.List.{[]}
use mathlib.Core.Option.{Option, none, some}
use Prim.Native.Nat.{ℕ, ◌+◌, ◌-◌, ◌<◌}
use lib.ListN.{length, get_or, take, drop}
use Rattle.meaning.specs.Text.{Bytes, is_none, among_names, repeated, cut, tab}
use Rattle.laws.specs.Found.{found}
use Rattle.std.specs.Option.{is_some}
use Rattle.text.proofs.Pieces.{rest_of, piece_last, piece_more}

-- whether the part `&s[at..e]` stands among the fields of the part `&s[e + 1..]`
abbrev pub among_rest : Bytes → ℕ → ℕ → Bool
among_rest s at e = among_names (take (e - at) (drop at s)) (cut tab (take (length s - (e + 1)) (drop (e + 1) s)))

-- e is where the field that starts at `at` ends
module _ (s : Bytes) (at e : ℕ) (p : e ≡ at + length (get_or (cut tab (drop at s)) 0 [])) where
  pub repeated_end : e ≡ length s → repeated (cut tab (drop at s)) ≡ false
  repeated_end l = rw (piece_last tab s at e p l)

  module _ (l : e < length s) where
    pub repeated_hit : among_rest s at e ≡ true → repeated (cut tab (drop at s)) ≡ true
    repeated_hit f = let among = rw rest_of at f in rw (piece_more tab s at e p l, among)

    pub repeated_more : among_rest s at e ≡ false → repeated (cut tab (drop at s)) ≡ repeated (cut tab (drop (e + 1) s))
    repeated_more f = let among = rw rest_of at f in rw (piece_more tab s at e p l, among)

pub found_placed : (o : Option ℕ) → is_some (found o) ≡ not (is_none o)
found_placed none = refl
found_placed (some n) = refl
