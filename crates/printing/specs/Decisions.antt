-- Decisions by their numbers.
use Rattle.std.specs.Prelude.{ℕ, zero, suc}
use Rattle.meaning.specs.declared.Decision.{Decision}

abbrev pub decision_from : ℕ → Decision
decision_from zero = Decision.Permit
decision_from (suc zero) = Decision.Deny
decision_from (suc (suc zero)) = Decision.NotApplicable
decision_from (suc (suc (suc n))) = Decision.Indeterminate
