-- `trim_flags`: at the start no rule is known. Assumes nothing.
use borrow.Author.Rules.{rules}
use Rattle.trials.proofs.Trying.{obligation_room}
use Rattle.trimming.proofs.Knowing.{known_none}
use Rattle.trimming.proofs.trim_flags.Goals as goal

pub any_obligations-obliged-requires : goal.any_obligations-obliged-requires
any_obligations-obliged-requires c = let laid = c.requires.0 in obligation_room laid.steady laid.ready

pub strike_rules-requires : goal.strike_rules-requires
strike_rules-requires c =
    let pre = c.requires in
    (pre.0, search rules, known_none _ _ _ _ _ pre.0.ready.few, pre.1)
