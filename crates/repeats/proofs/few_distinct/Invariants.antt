-- `repeats::few_distinct` meets its contract. The loop keeps the answer: that of the fields from `at` on.
use Prim.Native.Nat.{◌+◌, ◌-◌, ◌≤◌}
use mathlib.Core.Path.{◌≡◌}
use lib.ListN.{length, drop}
use Rattle.meaning.specs.Text.{repeated, cut, tab}
use Rattle.repeats.proofs.few_distinct.Given as goal

abbrev pub invariant-loop-at : goal.invariant-loop-at
invariant-loop-at l = (l.at ≤ length l.fields) × (repeated (cut tab (drop l.at l.fields)) ≡ repeated (cut tab l.fields))

abbrev pub decreases-loop-at : goal.decreases-loop-at
decreases-loop-at l = length l.fields + 1 - l.at
