-- `finish` meets its contract: bytes left over, no tree line, or the policy.
use borrow.Author.Tests.{eq-eqb, ne_eqb}
use Rattle.reader.proofs.finish.Goals as goal

pub returns-then-st-end : goal.returns-then-st-end
returns-then-st-end c = rw (ne_eqb _ _ c.if-st-end.true)

pub returns-then-elements-eq0 : goal.returns-then-elements-eq0
returns-then-elements-eq0 c = rw (eq-eqb _ _ c.if-st-end.false, eq-eqb _ 0 c.if-elements-eq0.true)

pub returns : goal.returns
returns c = rw (eq-eqb _ _ c.if-st-end.false, ne_eqb _ 0 c.if-elements-eq0.false)
