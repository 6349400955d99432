use native.Mathlib.Omega.{arith}
use Rattle.printing.proofs.Laws.{then}
use Rattle.report_lines.proofs.fields.put_named.Goals as goal

pub returns : goal.returns
returns c =
    let (w, l) = c.put_name.ensures in
    let v = c.put.ensures in
    (then w v, omega (arith, l, v.wrote.moved))
