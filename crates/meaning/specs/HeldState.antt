-- Trimming as a held state: the text left so far, and a step that strikes one rule.
use Rattle.std.specs.Prelude.{ℕ, Bool, true, false}
use Rattle.std.proofs.Math.Option.{Option, none, some}
use Rattle.meaning.specs.Text.{Bytes}
use Rattle.meaning.specs.Model.{Result, given, ◌then◌}
use Rattle.meaning.specs.Reading.{read}
use Rattle.meaning.specs.Trimming.{strike, next_struck}

-- What a step leaves: the state, and whether a rule was struck
pub record Step : Type 0 where
  pub text : Bytes
  pub struck : Bool

-- It strikes the rule that trimming would strike next, or says that none is left and changes nothing
abbrev pub step_by : Bytes → Option ℕ → Step
step_by f none = record { text = f; struck = false }
step_by f (some k) = record { text = strike k f; struck = true }

unfoldable pub step_on : Bytes → Step
step_on f = step_by f (next_struck f)

-- The operation: a file that reading refuses gives that refusal and no state
unfoldable pub step_file : Bytes → Result Step
step_file f = read f then λ p. given (step_on f)
