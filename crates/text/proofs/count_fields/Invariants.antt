-- `text::count_fields` meets its contract. The loop keeps what the count gives: fields that ended, and the pieces of what is left.
use Prim.Native.Nat.{◌-◌, ◌≤◌}
use mathlib.Core.Path.{◌≡◌}
use mathlib.Core.Bool.{true, cond}
use lib.ListN.{length, drop}
use Rattle.meaning.specs.Text.{all, cut, tab, is_field}
use Rattle.text.proofs.Counting.{tally}
use Rattle.text.proofs.count_fields.Given as goal

abbrev pub invariant-loop-at : goal.invariant-loop-at
invariant-loop-at l = (l.at ≤ length l.line) × (l.ended ≤ l.at) × (tally l.ended true (cut tab (drop l.at l.line)) ≡ cond (all is_field (cut tab l.line)) (length (cut tab l.line)) 0)

abbrev pub decreases-loop-at : goal.decreases-loop-at
decreases-loop-at l = length l.line - l.at
