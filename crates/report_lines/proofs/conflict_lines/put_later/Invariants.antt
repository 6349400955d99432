use Prim.Native.Nat.{◌+◌}
use Rattle.printing.proofs.Walks.{Sofar}
use Rattle.report_lines.specs.Lines.{later_line}
use Rattle.report_lines.proofs.conflict_lines.put_later.Given as goal

abbrev pub invariant-loop-k : goal.invariant-loop-k
invariant-loop-k l = Sofar (later_line l.policy.file.now l.policy.places.now l.policy.shape.n l.parents l.pairs l.policy.shape.space l.i l.j) 500 (l.j + 1) l.initial.sink l.k l.sink
