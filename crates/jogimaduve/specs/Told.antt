-- Answers.
use Rattle.std.specs.Prelude.{ℕ}
use Rattle.meaning.specs.declared.Answer.{Answer}

abbrev pub told : ℕ → ℕ → Answer
told n m = record { number = n; second = m }
