-- `with_decision` meets its contract.
use mathlib.Core.Path.{sym}
use borrow.Author.Tests.{eq-eqb, ne_eqb}
use Rattle.deciding.proofs.with_decision.Goals as goal

pub returns-then-told-eq0 : goal.returns-then-told-eq0
returns-then-told-eq0 c = rw (eq-eqb c.args.told.number 0 c.if-told-eq0.true, c.decision_number.ensures.0)

pub returns : goal.returns
returns c = sym (rw (ne_eqb c.args.told.number 0 c.if-told-eq0.false))
