-- Decisions compared by `==`: what the derive computes is the meaning's test.
use mathlib.Core.Path.{◌≡◌, refl, ◌∙◌, sym}
use mathlib.Core.Bool.{true, false}
use denote.Enum.Bare.{sameb}
use Rattle.meaning.specs.contracts.Decision.{the_type}
use Rattle.meaning.specs.declared.Decision.{Decision}
use Rattle.meaning.specs.declared.Decision.TheVariants.{Permit, Deny, NotApplicable, Indeterminate}
use Rattle.meaning.specs.Deciding.{is}
use Rattle.laws.proofs.Bools.{contradiction}
use Rattle.laws.proofs.Outcomes.{same_decision, decision_same}

pub same_is : (d e : Decision) → sameb the_type d e ≡ is d e
same_is Permit Permit = refl
same_is Permit Deny = refl
same_is Permit NotApplicable = refl
same_is Permit Indeterminate = refl
same_is Deny Permit = refl
same_is Deny Deny = refl
same_is Deny NotApplicable = refl
same_is Deny Indeterminate = refl
same_is NotApplicable Permit = refl
same_is NotApplicable Deny = refl
same_is NotApplicable NotApplicable = refl
same_is NotApplicable Indeterminate = refl
same_is Indeterminate Permit = refl
same_is Indeterminate Deny = refl
same_is Indeterminate NotApplicable = refl
same_is Indeterminate Indeterminate = refl

module _ (d e : Decision) where
  pub alike : sameb the_type d e ≡ true → d ≡ e
  alike h = same_decision d e (sym (same_is d e) ∙ h)

  pub apart : sameb the_type d e ≡ false → d ≡ e → ⊥
  apart h same = contradiction (rw (← same) (decision_same d)) (sym (same_is d e) ∙ h)
