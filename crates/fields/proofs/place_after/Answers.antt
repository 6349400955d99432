-- `fields::place_after` meets its contract.
use borrow.Author.Tests.{lt-ltb, le-ltb}
use Rattle.fields.proofs.place_after.Goals as goal

pub returns-then-line-at : goal.returns-then-line-at
returns-then-line-at c = simp (lt-ltb _ _ c.if-line-at.true)

pub returns : goal.returns
returns c = simp (le-ltb _ _ c.if-line-at.false, c.end_of.ensures.value)
