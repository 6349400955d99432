-- The values before i were found, and field i starts at `at` if it is there.
use Prim.Native.Nat.{◌<◌}
use Rattle.text.proofs.Fields.{Starts}
use Rattle.request_lines.proofs.FieldWalk.{Walked}
use Rattle.request_lines.proofs.read_fields.Given as goal

abbrev pub invariant-loop-i : goal.invariant-loop-i
invariant-loop-i l = Walked l.file l.a l.line l.values l.i × (l.i < l.a.len → Starts l.line l.i l.at)
