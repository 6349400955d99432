-- Rows: the numbers of words, and another row of a table.
use Prim.Native.Nat.{ℕ, zero, suc, ◌+◌, ◌≤◌, ◌<◌}
use mathlib.Core.Path.{◌≡◌, sym, ap, ◌∙◌}
use mathlib.Core.Logic.{◌⊎◌, inl, inr}
use mathlib.Core.Bool.{Bool, true, false}
use mathlib.Core.List.{List}
use native.Mathlib.Omega.{arith}
use lib.ListN.{length, length-set, replicate}
use lib.Seq.{get_or-set_same, get_or-set_other}
use Rattle.meaning.specs.declared.Word.{Word}
use Rattle.meaning.specs.declared.Word.TheVariants.{Permit, Deny, DenyOverrides, PermitOverrides, FirstApplicable, OnlyOneApplicable}
use Rattle.laws.proofs.Types.{rule, Element}
use Rattle.meaning.specs.Model.{unused}
use Rattle.table.specs.declared.Row.{Row}
use Rattle.table.specs.Rows.{Rows, word_at, word_number, depth_of, masks_at, no_row, with_row, element_at}

-- the numbers of effects, and of algorithms
abbrev is_effect : Word → Bool
is_effect Permit = true
is_effect Deny = true
is_effect DenyOverrides = false
is_effect PermitOverrides = false
is_effect FirstApplicable = false
is_effect OnlyOneApplicable = false

by_test : (k : ℕ) → is_effect (word_at k) ≡ true → k < 2
by_test zero e = omega arith
by_test (suc zero) e = omega arith
by_test (suc (suc zero)) e = absurd (cc)
by_test (suc (suc (suc zero))) e = absurd (cc)
by_test (suc (suc (suc (suc zero)))) e = absurd (cc)
by_test (suc (suc (suc (suc (suc k))))) e = absurd (cc)

pub effect_number : (k : ℕ) (w : Word) → w ≡ word_at k → (w ≡ Permit) ⊎ (w ≡ Deny) → k < 2
effect_number k w e (inl h) = by_test k (ap is_effect (sym e ∙ h))
effect_number k w e (inr h) = by_test k (ap is_effect (sym e ∙ h))

pub group_number : (k : ℕ) (w : Word) → w ≡ word_at k → (w ≡ Permit → ⊥) → (w ≡ Deny → ⊥) → 2 ≤ k
group_number zero w e permit deny = absurd (permit e)
group_number (suc zero) w e permit deny = absurd (deny e)
group_number (suc (suc k)) w e permit deny = omega arith

-- the element of a row
abbrev pub row_element : Row → Element
row_element row = record { kind = rule; depth = row.depth; name = replicate 16 0; len = 0; word = word_at row.word; masks = row.masks; obligations = 0; first = unused; second = unused }

-- Another row of element n
module _ (t : List Row) (n : ℕ) (row : Row) where
  pub row_length : length (with_row t n row) ≡ length t
  row_length = length-set t n row

  pub row_here : Rows t (n + 1) → element_at (with_row t n row) n ≡ row_element row
  unfolding element_at word_number depth_of masks_at
  row_here room = ap row_element (get_or-set_same t n row no_row (omega arith))

  pub row_other : (i : ℕ) → i < n → element_at (with_row t n row) i ≡ element_at t i
  unfolding element_at word_number depth_of masks_at
  row_other i l = ap row_element (get_or-set_other t n i row no_row (omega arith))
