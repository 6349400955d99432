use Rattle.printing.proofs.Walks.{Sofar}
use Rattle.report_lines.specs.Lines.{pair_lines}
use Rattle.report_lines.proofs.put_conflicts.Given as goal

abbrev pub invariant-loop-i : goal.invariant-loop-i
invariant-loop-i l = Sofar (pair_lines l.policy.file.now l.policy.places.now l.policy.shape.n l.parents l.pairs l.policy.shape.space) 2048000 0 l.initial.sink l.i l.sink
