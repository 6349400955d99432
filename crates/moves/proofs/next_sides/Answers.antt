-- `next_sides`: a step without the rule, then one of the rule or of the other side. Assumes nothing.
use Rattle.moves.proofs.next_sides.Goals as goal

pub returns-then-earlier : goal.returns-then-earlier
returns-then-earlier c v = (c.step-without.ensures v, rw c.if-earlier.true (c.step-with.ensures v))

pub returns-else-earlier : goal.returns-else-earlier
returns-else-earlier c v = (c.step-without.ensures v, rw c.if-earlier.false (c.step-with-else-earlier.ensures v))
