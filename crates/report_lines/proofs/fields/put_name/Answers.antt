-- `put_name`: what is put is the name.
use native.Mathlib.Omega.{arith}
use Rattle.printing.proofs.Laws.{same_text}
use Rattle.report_lines.proofs.fields.put_name.Goals as goal

pub returns : goal.returns
returns c =
    let put = c.put_bytes.ensures in
    let named = c.element_name.ensures in
    (same_text named.result_value put, omega (arith, put.wrote.moved, named.within))
