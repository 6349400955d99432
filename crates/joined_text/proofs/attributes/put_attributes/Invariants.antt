-- `put_attributes`: the loop keeps the lines of the attributes before `i`. Assumes nothing.
use Rattle.printing.proofs.Walks.{Sofar}
use Rattle.joined_text.proofs.Header.{line_at}
use Rattle.joined_text.proofs.attributes.put_attributes.Given as goal

abbrev pub invariant-loop-i : goal.invariant-loop-i
invariant-loop-i l = Sofar (line_at l.part.file.now l.part.attributes) 16388 0 l.initial.sink l.i l.sink
