use Rattle.printing.proofs.Walks.{Sofar}
use Rattle.report_lines.specs.Lines.{segment_line}
use Rattle.report_lines.proofs.put_segments.Given as goal

abbrev pub invariant-loop-m : goal.invariant-loop-m
invariant-loop-m l = Sofar (segment_line l.policy.file.now l.policy.places.now l.policy.shape.n l.words l.sizes l.decided) 10000 0 l.initial.sink l.m l.sink
