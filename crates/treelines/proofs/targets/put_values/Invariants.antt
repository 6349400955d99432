-- `put_values` meets its contract. The invariant is `Walked`: the names stored and those left are all names. The measure is what is left of the values.
use Prim.Native.Nat.{◌+◌, ◌-◌}
use lib.ListN.{length}
use Rattle.treelines.proofs.Values.{Walked}
use Rattle.treelines.proofs.targets.put_values.Given as goal

abbrev pub invariant-loop-left : goal.invariant-loop-left
invariant-loop-left l = Walked l.values l.mask l.initial.sink l.start l.left l.later l.sink

abbrev pub decreases-loop-left : goal.decreases-loop-left
decreases-loop-left l = length l.values + 1 - l.start
