-- When an attribute of the second file differs from one of the first, and the first that does.
use mathlib.Core.Path.{◌≡◌, refl, sym, ap, ap₂, ◌∙◌}
use mathlib.Core.Bool.{Bool, true, false, not, beq}
use mathlib.Core.List.{List, ◌∷◌}
use mathlib.Core.Option.{some}
use Prim.Native.Nat.{ℕ, suc}
use borrow.Author.Tests.{not-true, not-false}
use Rattle.meaning.specs.Text.{Bytes, any, same, same_name, join, tab, cut}
use Rattle.meaning.specs.Model.{Attribute, letter_text}
use Rattle.meaning.specs.Joining.{differs, first_differing}
use Rattle.laws.proofs.Text.{join_cut}

module _ (b a : Attribute) where
  pub other_name : same_name b.name a.name ≡ false → false ≡ differs b a
  other_name e = sym (rw e)

  module _ (e : same_name b.name a.name ≡ true) where
    letters : (x y : Bool) → same (letter_text y) (letter_text x) ≡ beq x y
    letters true true = refl
    letters true false = refl
    letters false true = refl
    letters false false = refl

    pub other_letter : not (beq a.several b.several) ≡ true → true ≡ differs b a
    other_letter h = sym (rw (e, letters a.several b.several, not-true (beq a.several b.several) h))

    -- the values stand in the file, parted by tabs
    pub by_values : not (beq a.several b.several) ≡ false → (own other : Bytes) → a.values ≡ cut tab own → b.values ≡ cut tab other → not (same other own) ≡ differs b a
    by_values h own other p q =
        let values : same (join tab b.values) (join tab a.values) ≡ same other own = ap₂ same (ap (join tab) q ∙ join_cut tab other) (ap (join tab) p ∙ join_cut tab own) in
        sym (rw (e, letters a.several b.several, not-false (beq a.several b.several) h) (ap not values))

-- the first that differs: it is passed, or found
module _ (first : List Attribute) (n : ℕ) (b : Attribute) (bs : List Attribute) where
  pub differing : any (differs b) first ≡ true → first_differing first n (b ∷ bs) ≡ some n
  differing e = rw e

  pub passed_over : any (differs b) first ≡ false → first_differing first n (b ∷ bs) ≡ first_differing first (suc n) bs
  passed_over e = rw e
