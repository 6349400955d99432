-- `give_all`: the rows before i are laid down, and then the words before `block` of row i. Assumes nothing.
use Prim.Native.Nat.{◌+◌, ◌*◌}
use Rattle.rows.proofs.Rows.{Gives}
use Rattle.rows.proofs.give_all.Given as goal

abbrev pub invariant-loop-i : goal.invariant-loop-i
invariant-loop-i l = Gives l.table l.struck l.hits l.n l.blocks l.initial.permits l.permits l.initial.denies l.denies (64 * l.i)

abbrev pub invariant-loop-block : goal.invariant-loop-block
invariant-loop-block l = Gives l.table l.struck l.hits l.n l.blocks l.fn.permits l.permits l.fn.denies l.denies (64 * l.i + l.block)
