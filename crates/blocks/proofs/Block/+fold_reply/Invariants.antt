-- `reply` and `fold` call each other, and what is left of the table falls. `fold` keeps words of which each bit stands for the children passed.
use Rattle.std.proofs.Common.{◌-◌, ◌+◌, ◌*◌}
use Rattle.blocks.proofs.Replying.{Folded}
use Rattle.blocks.proofs.Block.+fold_reply.Given as goal

abbrev pub decreases-reply : goal.decreases-reply
decreases-reply l = 2 * (l.self.now.n - l.at)

abbrev pub decreases-fold : goal.decreases-fold
decreases-fold l = 2 * (l.self.now.n - l.from) + 1

abbrev pub invariant-fold-loop-at : goal.invariant-fold-loop-at
invariant-fold-loop-at l = let b = l.self in Folded b.table.now b.struck.now b.hits.now b.n b.block l.from l.depth l.algorithm l.so_far l.at
