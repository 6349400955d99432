-- A line's fields met from behind: the text from a place on, and from the place before it.
use mathlib.Core.Path.{◌≡◌, refl, ap, ◌∙◌}
use mathlib.Core.List.{List, [], ◌∷◌}
use Prim.Native.Nat.{ℕ, ◌+◌, ◌-◌, ◌≤◌, ◌<◌}
use native.Mathlib.Nat.{le_refl}
use native.Mathlib.Omega.{arith}
use lib.ListN.{length, get_or, drop, drop_of_length-le}
use borrow.Author.Tests.{eq-eqb, ne_eqb}
use Rattle.meaning.specs.Text.{Bytes, longer, cut, tab}
use Rattle.laws.proofs.Text.{Some, one_or_more, cut_some}
use Rattle.text.proofs.Pieces.{drop_next}
use Rattle.repeats.specs.Marks.{hash_step, hash_of, first_at, others_at, LastField}

longer_hash : (x : ℕ) (ps : List Bytes) → hash_of (get_or (longer x ps) 0 []) ≡ hash_step x (hash_of (get_or ps 0 []))
longer_hash x [] = refl
longer_hash x (p ∷ ps) = refl

longer_others : (x : ℕ) (ps : List Bytes) → drop 1 (longer x ps) ≡ drop 1 ps
longer_others x [] = refl
longer_others x (p ∷ ps) = refl

module _ (s : Bytes) (i : ℕ) (some : 0 < i) (inside : i ≤ length s) where
  one_more : drop (i - 1) s ≡ get_or s (i - 1) 0 ∷ drop i s
  one_more =
      let place : i - 1 + 1 ≡ i = omega arith in
      drop_next s (i - 1) (omega arith) ∙ ap (λ k. get_or s (i - 1) 0 ∷ drop k s) place

  pub before_tab : get_or s (i - 1) 0 ≡ tab → cut tab (drop (i - 1) s) ≡ [] ∷ cut tab (drop i s)
  before_tab e = rw (one_more, eq-eqb _ _ e)

  module _ (n : get_or s (i - 1) 0 ≡ tab → ⊥) where
    before_byte : cut tab (drop (i - 1) s) ≡ longer (get_or s (i - 1) 0) (cut tab (drop i s))
    before_byte = rw (one_more, ne_eqb _ _ n)

    pub before_hash : hash_of (first_at s (i - 1)) ≡ hash_step (get_or s (i - 1) 0) (hash_of (first_at s i))
    before_hash = ap (λ ps. hash_of (get_or ps 0 [])) before_byte ∙ longer_hash (get_or s (i - 1) 0) (cut tab (drop i s))

    pub before_others : others_at s (i - 1) ≡ others_at s i
    before_others = ap (drop 1) before_byte ∙ longer_others (get_or s (i - 1) 0) (cut tab (drop i s))

-- a text has a first field
pub at_parts : (s : Bytes) (i : ℕ) → cut tab (drop i s) ≡ first_at s i ∷ others_at s i
at_parts s i = parts (cut_some tab (drop i s))
  where
    parts : {ps : List Bytes} → Some ps → ps ≡ get_or ps 0 [] ∷ drop 1 ps
    parts (one_or_more p ps) = refl

-- where the text ends, no field was passed
pub end_parts : (s : Bytes) → cut tab (drop (length s) s) ≡ [] ∷ []
end_parts s = rw (drop_of_length-le s (le_refl (length s)))

-- The field that ends at a place, and the place where the field before it ends
module _ {s : Bytes} {end start h : ℕ} (l : LastField s end start h) (inside : end ≤ length s) where
  pub passed_parts : cut tab (drop start s) ≡ first_at s start ∷ others_at s end
  passed_parts = at_parts s start ∙ ap (λ fs. first_at s start ∷ fs) l.others

  pub next_parts : (start ≡ 0 → ⊥) → cut tab (drop (start - 1) s) ≡ [] ∷ cut tab (drop start s)
  next_parts n = let some : 0 < start = omega arith in before_tab s start some (omega (arith, l.within)) (l.before some)
