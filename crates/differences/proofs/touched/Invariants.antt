-- `touched`: one element more, which is struck or is not. Assumes nothing.
use Rattle.differences.specs.Apart.{Touched}
use Rattle.differences.proofs.touched.Given as goal

abbrev pub invariant-loop-i : goal.invariant-loop-i
invariant-loop-i l = Touched l.struck l.hits l.i l.block l.word
