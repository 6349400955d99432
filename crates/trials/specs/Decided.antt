-- What changes without a rule, and which rules are needless, over a file, its places, a table of elements and a flag for each: an element whose flag is not 0 is struck.
use Rattle.std.specs.Prelude.{ℕ, Bool, not, cond, ◌&&◌, List, set}
use Rattle.std.proofs.Math.Option.{Option, none}
use Rattle.meaning.specs.Text.{Bytes, is_none, first_from}
use Rattle.meaning.specs.Deciding.{same_outcome}
use Rattle.meaning.specs.declared.Element.{Element}
use Rattle.table.specs.declared.Row.{Row}
use Rattle.table.specs.Tree.{rule_left}
use Rattle.moves.specs.Moved.{kept}
use Rattle.obligations.specs.Given.{outcome_left}
use Rattle.differences.specs.Apart.{apart}
use Rattle.layout.specs.declared.ElementPlaces.{ElementPlaces}

-- A policy: its file, where its elements and their obligations stand there, its table, the number of its elements, which requests match an element's own target, and how many there are
module _ (f : Bytes) (places : List ElementPlaces) (t : List Row) (n : ℕ) (hit : ℕ → Element → Bool) where
  -- request m gets another decision, or other obligations, without element i
  unfoldable pub changes_at : List ℕ → ℕ → ℕ → Bool
  changes_at struck i m = not (same_outcome (outcome_left (hit m) f t places struck n) (outcome_left (hit m) f t places (set struck i 1) n))

  -- the same of a rule that is struck, against the rule left
  abbrev pub apart_at : List ℕ → ℕ → ℕ → Bool
  apart_at struck rule = apart f places t n hit (kept struck rule) struck

  module _ (space : ℕ) where
    -- the first such request
    unfoldable pub first_change_at : List ℕ → ℕ → Option ℕ
    first_change_at struck i = first_from (changes_at struck i) 0 space

    -- that request for a rule that is left; none for every other element
    unfoldable pub shown_at : List ℕ → ℕ → Option ℕ
    shown_at struck i = cond (rule_left t struck i) (first_change_at struck i) none

    -- a rule that is left and without which every request gets the same decision and the same obligations
    unfoldable pub needless_at : List ℕ → ℕ → Bool
    needless_at struck i = rule_left t struck i && is_none (first_change_at struck i)
