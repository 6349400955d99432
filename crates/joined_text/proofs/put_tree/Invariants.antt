-- `put_tree`: each turn stores one line. Assumes nothing.
use Prim.Native.Nat.{◌-◌}
use lib.ListN.{length}
use Rattle.joined_text.specs.Lines.{places_of, deeper_placed}
use Rattle.joined_text.proofs.Walk.{Walked}
use Rattle.joined_text.proofs.put_tree.Given as goal

abbrev pub invariant-loop-start : goal.invariant-loop-start
invariant-loop-start l = Walked (deeper_placed (places_of l.p) l.n) l.file l.from l.initial.sink l.start l.sink

abbrev pub decreases-loop-start : goal.decreases-loop-start
decreases-loop-start l = length l.file - l.start
