use lib.ListN.{get_or}
use Rattle.printing.proofs.Walks.{Sofar}
use Rattle.report_lines.specs.Lines.{struck_line}
use Rattle.report_lines.proofs.put_struck.Given as goal

abbrev pub invariant-loop-i : goal.invariant-loop-i
invariant-loop-i l = Sofar (λ k. struck_line l.policy.file.now l.policy.places.now (get_or l.order k 0)) 500 0 l.initial.sink l.i-index l.sink
