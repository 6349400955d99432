use Rattle.printing.proofs.Walks.{Sofar}
use Rattle.report_lines.specs.Lines.{kept_line}
use Rattle.report_lines.proofs.put_kept.Given as goal

abbrev pub invariant-loop-i : goal.invariant-loop-i
invariant-loop-i l = Sofar (kept_line l.policy.file.now l.policy.places.now l.shown l.policy.shape.space) 500 0 l.initial.sink l.i l.sink
