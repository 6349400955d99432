-- Each answer is that of the comparison asked for.
use Rattle.syntax.proofs.equal.Goals as goal

pub returns-then-exact : goal.returns-then-exact
returns-then-exact c = rw c.if-exact.true c.same.ensures

pub returns : goal.returns
returns c = rw c.if-exact.false c.same_name.ensures
