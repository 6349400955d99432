-- `Marks::put_own`: its two places, one behind the other.
use native.Mathlib.Omega.{arith}
use Rattle.printing.proofs.Laws.{then}
use Rattle.obligations.specs.Given.{effect}
use Rattle.obligations.proofs.Texts.{own_slots}
use Rattle.obligations.proofs.Marks.put_own.Goals as goal

pub returns : goal.returns
returns c =
    let a = c.args in
    let (first, few) = c.put_obligation.ensures in
    let (second, more) = c.put_obligation-2.ensures in
    (rw (own_slots (effect a.permit) a.self.now.file.now a.self.now.places.now a.i c.requires.0) (then first second), omega (arith, few, more))
