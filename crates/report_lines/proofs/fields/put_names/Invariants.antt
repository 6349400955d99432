use mathlib.Core.Path.{◌≡◌}
use Prim.Native.Nat.{◌-◌}
use Rattle.report_lines.specs.Lines.{names_of}
use Rattle.report_lines.proofs.Names.{names_from}
use Rattle.report_lines.proofs.fields.put_names.Given as goal

abbrev pub invariant-loop-i : goal.invariant-loop-i
invariant-loop-i l = (names_of l.policy.file.now l.policy.places.now l.policy.shape.n l.word ≡ names_from l.policy.file.now l.policy.places.now l.policy.shape.n l.word l.i (l.policy.shape.n - l.i)) × (l.sink ≡ l.initial.sink)
