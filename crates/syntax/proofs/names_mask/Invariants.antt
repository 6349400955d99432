-- The invariant is `Walked`: the mask of what is left, shifted behind the bits taken, is the mask of all. The measure is what is left of the values.
use Prim.Native.Nat.{◌+◌, ◌-◌}
use lib.ListN.{length}
use Rattle.syntax.proofs.Walk.{Walked}
use Rattle.syntax.proofs.names_mask.Given as goal

abbrev pub invariant-loop-taken : goal.invariant-loop-taken
invariant-loop-taken l = Walked l.exact l.values l.field l.at l.name l.end l.bit l.taken

abbrev pub decreases-loop-taken : goal.decreases-loop-taken
decreases-loop-taken l = length l.values + 1 - l.at
