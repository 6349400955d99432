-- `names::all_names` meets its contract. The loop keeps the answer: that of the fields from `at` on.
use Prim.Native.Nat.{◌+◌, ◌-◌, ◌≤◌}
use mathlib.Core.Path.{◌≡◌}
use lib.ListN.{length, drop}
use Rattle.meaning.specs.Text.{all, cut, tab, is_name}
use Rattle.names.proofs.all_names.Given as goal

abbrev pub invariant-loop-at : goal.invariant-loop-at
invariant-loop-at l = (l.at ≤ length l.fields) × (all is_name (cut tab (drop l.at l.fields)) ≡ all is_name (cut tab l.fields))

abbrev pub decreases-loop-at : goal.decreases-loop-at
decreases-loop-at l = length l.fields + 1 - l.at
