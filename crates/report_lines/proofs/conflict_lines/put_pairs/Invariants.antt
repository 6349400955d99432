use Rattle.printing.proofs.Walks.{Sofar}
use Rattle.report_lines.specs.Lines.{later_lines}
use Rattle.report_lines.proofs.conflict_lines.put_pairs.Given as goal

abbrev pub invariant-loop-j : goal.invariant-loop-j
invariant-loop-j l = Sofar (later_lines l.policy.file.now l.policy.places.now l.policy.shape.n l.parents l.pairs l.policy.shape.space l.i) 32000 0 l.initial.sink l.j l.sink
