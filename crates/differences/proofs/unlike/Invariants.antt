-- `unlike`: one element more, which has obligations or has none. Assumes nothing.
use Rattle.differences.specs.Marks.{Marked}
use Rattle.differences.proofs.unlike.Given as goal

abbrev pub invariant-loop-i : goal.invariant-loop-i
invariant-loop-i l = Marked l.places l.i l.one l.other l.word
