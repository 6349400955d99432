-- `put_obligations` meets its contract: none, one or two lines.
use native.Mathlib.Omega.{arith}
use Rattle.treelines.proofs.ObligationLines.{first_short, second_short, no_lines, one_line, two_lines}
use Rattle.treelines.proofs.obligations.put_obligations.Goals as goal
use Rattle.treelines.proofs.obligations.put_obligations.Goals.{then-e-gt0, else-e-gt0}

pub put_obligation-requires : goal.put_obligation-requires
put_obligation-requires c = (first_short c.args.e c.requires.0 c.if-e-gt0.true, omega (arith, c.requires.1))

pub put_obligation-requires-then-e-gt1 : goal.put_obligation-requires-then-e-gt1
put_obligation-requires-then-e-gt1 c =
    let (small, low) = c.requires in
    elim c.if-e-gt0.branch [
      | then-e-gt0 w ↦ rw w.sink-is (second_short c.args.e small c.if-e-gt1.true, omega (arith, low, w.put_obligation.ensures.1))
      | else-e-gt0 w ↦ absurd (omega (arith, c.if-e-gt1.true, w.if-e-gt0.false))
    ]

pub returns-then-e-gt1 : goal.returns-then-e-gt1
returns-then-e-gt1 c =
    let second = c.put_obligation-then-e-gt1.ensures in
    elim c.if-e-gt0.branch [
      | then-e-gt0 w ↦ let first = w.put_obligation.ensures in let behind = rw w.sink-is at second in (two_lines c.args.e c.requires.0 w.if-e-gt0.true first.0 c.if-e-gt1.true behind.0, omega (arith, first.1, behind.1))
      | else-e-gt0 w ↦ absurd (omega (arith, c.if-e-gt1.true, w.if-e-gt0.false))
    ]

pub returns-else-e-gt1 : goal.returns-else-e-gt1
returns-else-e-gt1 c =
    elim c.if-e-gt0.branch [
      | then-e-gt0 w ↦ rw w.sink-is (one_line c.args.e c.requires.0 w.if-e-gt0.true w.put_obligation.ensures.0 c.if-e-gt1.false, omega (arith, w.put_obligation.ensures.1))
      | else-e-gt0 w ↦ rw w.sink-is (no_lines c.args.e c.requires.0 c.args.sink.now w.if-e-gt0.false, omega arith)
    ]
