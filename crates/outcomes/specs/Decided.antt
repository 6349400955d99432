-- What each request gets from the elements of a table that flags leave, by definition and by words that tell it.
use Rattle.std.specs.Prelude.{ℕ, ◌/◌, ◌%◌, Bool, not, List, get_or, replicate}
use Rattle.meaning.specs.declared.Decision.{Decision}
use Rattle.meaning.specs.Deciding.{is, first_decision}
use Rattle.meaning.specs.declared.Element.{Element}
use Rattle.table.specs.declared.Row.{Row}
use Rattle.table.specs.Tree.{left}
use Rattle.blocks.specs.declared.Effects.{Effects}
use Rattle.blocks.specs.Bits.{decision_bit}

-- no element is struck
abbrev pub none_struck : List ℕ
none_struck = replicate 64 0

-- what stands for a block that nothing is laid down for
abbrev pub no_effects : Effects
no_effects = record { permits = 0; denies = 0 }

-- what the effects on each block tell of request m
abbrev pub outcome_at : List Effects → ℕ → Decision
outcome_at outcomes m = decision_bit (get_or outcomes (m / 64) no_effects) (m % 64)

-- A policy: its table, the number of its elements, and which requests match an element's own target
module _ (t : List Row) (n : ℕ) (hit : ℕ → Element → Bool) where
  -- what request m gets from the elements that are left
  unfoldable pub decided_at : List ℕ → ℕ → Decision
  decided_at struck m = first_decision (hit m) (left t struck 0 n)

  -- request m gets another decision than the one laid down
  unfoldable pub differs_at : List Effects → List ℕ → ℕ → Bool
  differs_at outcomes struck m = not (is (outcome_at outcomes m) (decided_at struck m))
