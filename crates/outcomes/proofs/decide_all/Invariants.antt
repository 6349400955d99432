-- `decide_all`: up to the block looked at, the words tell what each request gets. Assumes nothing.
use Rattle.outcomes.proofs.Blocks.{outcome_up_to}
use Rattle.outcomes.proofs.LayingOutcomes.{OutcomesTo}
use Rattle.outcomes.proofs.decide_all.Given as goal

abbrev pub invariant-loop-block : goal.invariant-loop-block
invariant-loop-block l =
    OutcomesTo (outcome_up_to l.table l.struck l.shape) l.initial.outcomes l.outcomes l.block
