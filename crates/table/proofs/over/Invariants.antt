-- `over`: all that was passed is no less deep. Assumes nothing.
use Prim.Native.Nat.{ℕ, ◌≤◌}
use Rattle.table.specs.Rows.{depth_of}
use Rattle.table.proofs.over.Given as goal

abbrev pub invariant-loop-j : goal.invariant-loop-j
invariant-loop-j l = (k : ℕ) → l.j ≤ k → k ≤ l.i → l.depth ≤ depth_of l.table k
