-- `text::from_field` meets its contract. The loop keeps that field n of the line starts at `at`.
use Rattle.text.proofs.Fields.{Starts}
use Rattle.text.proofs.from_field.Given as goal

abbrev pub invariant-loop-n : goal.invariant-loop-n
invariant-loop-n l = Starts l.line l._n l.at
