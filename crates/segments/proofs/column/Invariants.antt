-- `column`: the words of the first i elements. Assumes nothing.
use Rattle.segments.proofs.Columns.{Columned}
use Rattle.segments.proofs.column.Given as goal

abbrev pub invariant-loop-i : goal.invariant-loop-i
invariant-loop-i l = Columned l.rows l.words l.block l.i
