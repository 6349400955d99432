-- `reached`: what `moved` tells, or the word of those that match. Assumes nothing.
use Rattle.trials.proofs.trial.reached.Goals as goal

pub moved-requires : goal.moved-requires
moved-requires c = rw c.in-Some.is at c.requires.1
