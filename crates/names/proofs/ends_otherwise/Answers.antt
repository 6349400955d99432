-- `names::ends_otherwise` meets its contract.
use borrow.Author.Tests.{eq-eqb, ne_eqb}
use Rattle.names.proofs.ends_otherwise.Goals as goal

pub returns-then-name-eq0 : goal.returns-then-name-eq0
returns-then-name-eq0 c = rw (eq-eqb _ 0 c.if-name-eq0.true)

pub returns : goal.returns
returns c = rw (ne_eqb _ 0 c.if-name-eq0.false)
