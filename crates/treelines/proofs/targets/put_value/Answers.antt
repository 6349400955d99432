-- `put_value` meets its contract.
use native.Mathlib.Omega.{arith}
use Rattle.printing.proofs.Laws.{then}
use Rattle.treelines.proofs.targets.put_value.Goals as goal
use Rattle.treelines.proofs.targets.put_value.Goals.{then-later, else-later}

pub returns : goal.returns
returns c =
    let name = c.put_bytes.ensures in
    elim c.if-later.branch [
      | then-later w ↦ let comma = w.put.ensures in let rest = rw w.sink-is at name in (rw w.if-later.true (then comma rest), omega (arith, comma.wrote.moved, rest.wrote.moved))
      | else-later w ↦ let rest = rw w.sink-is at name in (rw w.if-later.false rest, omega (arith, rest.wrote.moved))
    ]
