-- `first_other`: each turn passes a line of the original, and what is left gives what the whole gives. Assumes nothing.
use Prim.Native.Nat.{◌-◌}
use lib.ListN.{length}
use Rattle.other_lines.proofs.Walking.{Kept}
use Rattle.other_lines.proofs.first_other.Given as goal

abbrev pub invariant-loop-from : goal.invariant-loop-from
invariant-loop-from l = Kept l.original l.proposal l.at l.from l.line

abbrev pub decreases-loop-from : goal.decreases-loop-from
decreases-loop-from l = length l.original - l.at
