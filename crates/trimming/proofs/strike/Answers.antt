-- `strike`: what is laid down is what trimming asks for. Assumes nothing.
use borrow.Author.Rules.{rules}
use Rattle.trimming.proofs.strike.Goals as goal

pub trim_flags-requires : goal.trim_flags-requires
trim_flags-requires c =
    let pre = c.requires in
    let found = c.find_outcomes.ensures in
    (record { steady = pre.0; ready = pre.1; matched = found.0; holds = found.2 }, search rules)
