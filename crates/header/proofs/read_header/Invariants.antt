-- `read_header` meets its contract. The loop keeps that the lines left, read behind what was read so far, are the whole; the measure is the bytes left.
use Prim.Native.Nat.{◌-◌}
use lib.ListN.{length}
use Rattle.header.proofs.HeaderLoop.{Keeps}
use Rattle.header.proofs.read_header.Given as goal

abbrev pub invariant-loop-st : goal.invariant-loop-st
invariant-loop-st l = Keeps l.header l.st

abbrev pub decreases-loop-st : goal.decreases-loop-st
decreases-loop-st l = length l.header - l.st.at
