-- `text::first_line` meets its contract. The loop keeps that no newline was passed, and what the count gives.
use Prim.Native.Nat.{◌-◌}
use lib.ListN.{length}
use Rattle.text.proofs.LineEnds.{Kept}
use Rattle.text.proofs.first_line.Given as goal

abbrev pub invariant-loop-ended : goal.invariant-loop-ended
invariant-loop-ended l = Kept l.s l.ended l.at

abbrev pub decreases-loop-ended : goal.decreases-loop-ended
decreases-loop-ended l = length l.s - l.at
