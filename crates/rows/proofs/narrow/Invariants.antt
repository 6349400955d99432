-- `narrow`: the words before b are narrowed, the others as they were. Assumes nothing.
use Rattle.rows.proofs.Rows.{Narrows}
use Rattle.rows.proofs.narrow.Given as goal

abbrev pub invariant-loop-b : goal.invariant-loop-b
invariant-loop-b l = Narrows l.own l.initial.row l.row l.b
