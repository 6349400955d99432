-- `put_lines` meets its contract: its own line, then those of its obligations.
use native.Mathlib.Omega.{arith}
use Rattle.printing.proofs.Laws.{then}
use Rattle.treelines.proofs.put_lines.Goals as goal

pub returns : goal.returns
returns c =
    let own = c.put_element.ensures in
    let others = c.put_obligations.ensures in
    (then own.0 others.0, omega (arith, own.1, others.1))
