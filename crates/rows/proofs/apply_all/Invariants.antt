-- `apply_all`: the rows of the first i elements. Assumes nothing.
use Prim.Native.Nat.{◌*◌, ◌≤◌}
use Rattle.rows.proofs.Rows.{applying, Filled}
use Rattle.rows.proofs.apply_all.Given as goal

abbrev pub invariant-loop-i : goal.invariant-loop-i
invariant-loop-i l = (l.blocks ≤ 64) × Filled (applying l.table) l.table l.hits l.n l.blocks l.initial.applied l.applied (64 * l.i)
