-- Before turn i the reader is one of the line, with i fields passed.
use Rattle.std.proofs.Common.{◌≡◌}
use Rattle.fields.proofs.Places.{Passed}
use Rattle.fields.proofs.field.Given as goal

abbrev pub invariant-loop-i : goal.invariant-loop-i
invariant-loop-i l = record {
  of_line : l.r.line.now ≡ l.line;
  passed : Passed l.line l._i l.r.at;
}
