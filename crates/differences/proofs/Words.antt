-- Words of marks that differ, and of requests that match elements struck, one element after the other.
use Prim.Native.Nat.{ℕ, ◌+◌}
use mathlib.Core.Path.{◌≡◌, refl, sym, ◌∙◌}
use mathlib.Core.Bool.{Bool, true, false, not}
use mathlib.Core.List.{List}
use lib.Dec.{eqb}
use lib.Bits.{bit_or, bit_xor}
use lib.ListN.{get_or}
use borrow.Author.Tests.{eqb-true, not-false}
use Rattle.meaning.specs.Deciding.{bit}
use Rattle.laws.proofs.Bits.{xor, bit_or_lem, bit_xor_lem}
use Rattle.laws.proofs.Bools.{or_false}
use Rattle.table.specs.Words.{word_in}
use Rattle.outcomes.proofs.Searching.{up_to}
use Rattle.layout.specs.declared.ElementPlaces.{ElementPlaces}
use Rattle.layout.specs.Places.{obligation_end}
use Rattle.obligations.specs.Given.{marks_in}
use Rattle.differences.specs.Apart.{Touched}
use Rattle.differences.specs.Marks.{Marked}

xor_same : (a b : Bool) → xor a b ≡ false → a ≡ b
xor_same true true e = refl
xor_same true false e = e
xor_same false b e = sym e

module _ (places : List ElementPlaces) (one other : List ℕ) (word i : ℕ) (so_far : Marked places i one other word) where
  -- the marks of element j agree if it has obligations
  abbrev Agrees : (v j : ℕ) → Type 0
  Agrees v j = (obligation_end places j 0 ≡ 0 → ⊥) → marks_in one v j ≡ marks_in other v j

  pub marked_skip : not (eqb (obligation_end places i 0) 0) ≡ false → Marked places (i + 1) one other word
  marked_skip none v j off l =
      let at_none = eqb-true _ 0 (not-false (eqb (obligation_end places i 0) 0) none) in
      up_to (Agrees v) i (λ k below. so_far v k off below) (λ some. absurd (some at_none)) j l

  pub marked_next : Marked places (i + 1) one other (bit_or word (bit_xor (get_or one i 0) (get_or other i 0)))
  marked_next v j off l =
      let a = get_or one i 0 in
      let b = get_or other i 0 in
      let (before, here) = or_false (bit word v) (bit (bit_xor a b) v) (sym (bit_or_lem word (bit_xor a b) v) ∙ off) in
      up_to (Agrees v) i (λ k below. so_far v k before below) (λ some. xor_same (bit a v) (bit b v) (sym (bit_xor_lem a b v) ∙ here)) j l

module _ (struck : List ℕ) (hits : List (List ℕ)) (block word i : ℕ) (so_far : Touched struck hits i block word) where
  -- element j does not have the bit if it is struck
  abbrev Off : (v j : ℕ) → Type 0
  Off v j = (get_or struck j 0 ≡ 0 → ⊥) → bit (word_in hits j block) v ≡ false

  pub touched_skip : get_or struck i 0 ≡ 0 → Touched struck hits (i + 1) block word
  touched_skip live v j off l = up_to (Off v) i (λ k below. so_far v k off below) (λ gone. absurd (gone live)) j l

  pub touched_next : Touched struck hits (i + 1) block (bit_or word (word_in hits i block))
  touched_next v j off l =
      let here = word_in hits i block in
      let (before, own) = or_false (bit word v) (bit here v) (sym (bit_or_lem word here v) ∙ off) in
      up_to (Off v) i (λ k below. so_far v k before below) (λ gone. own) j l
