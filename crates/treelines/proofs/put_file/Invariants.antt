-- `put_file` meets its contract. The loop keeps the lines of the elements before the one at hand, behind the attribute lines.
use Rattle.printing.proofs.Walks.{Sofar}
use Rattle.treelines.proofs.ElementLines.{lines_at}
use Rattle.treelines.proofs.put_file.Given as goal

abbrev pub invariant-loop-e : goal.invariant-loop-e
invariant-loop-e l = Sofar (lines_at l.lines.text.now l.lines.attributes l.list) 100100 0 l.initial.sink l.e-index l.sink
