-- `names::find` meets its contract. The loop keeps the answer: that of the fields from `at` on, counted from n.
use Prim.Native.Nat.{◌+◌, ◌-◌, ◌≤◌}
use mathlib.Core.Path.{◌≡◌}
use lib.ListN.{length, drop}
use Rattle.meaning.specs.Text.{cut, tab}
use Rattle.meaning.specs.Deciding.{value_of}
use Rattle.names.proofs.find.Given as goal

abbrev pub invariant-loop-at : goal.invariant-loop-at
invariant-loop-at l = (l.at ≤ length l.fields) × (l.n ≤ l.at) × (value_of l.n l.name (cut tab (drop l.at l.fields)) ≡ value_of 0 l.name (cut tab l.fields))

abbrev pub decreases-loop-at : goal.decreases-loop-at
decreases-loop-at l = length l.fields + 1 - l.at
