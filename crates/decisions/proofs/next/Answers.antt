-- `next`: the entry of the table, whose rule is proved once. Assumes nothing.
use Rattle.decisions.proofs.Combining.{entry}
use Rattle.decisions.proofs.next.Goals as goal

pub returns : goal.returns
returns c =
    rw (c.decision_number.ensures.0, c.decision_number-2.ensures.0) (entry c.args.algorithm c.args.so_far c.args.child c.requires)
