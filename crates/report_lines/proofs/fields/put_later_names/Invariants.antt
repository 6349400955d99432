use Rattle.report_lines.specs.Lines.{comma_name}
use Rattle.printing.proofs.Walks.{Sofar}
use Rattle.report_lines.proofs.fields.put_later_names.Given as goal

abbrev pub invariant-loop-i : goal.invariant-loop-i
invariant-loop-i l = Sofar (comma_name l.policy.file.now l.policy.places.now l.policy.shape.n l.word) 17 l.from l.initial.sink l.i l.sink
