use native.Mathlib.Omega.{arith}
use Rattle.printing.proofs.Laws.{then}
use Rattle.printing.proofs.Sink.put_number.Goals as goal

pub returns : goal.returns
returns c = let (p, l) = c.put_decimal.ensures in let q = c.put.ensures in (then p q, omega (arith, l, q.wrote.moved))
