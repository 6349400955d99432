-- `next_struck`: what is laid down is what the search asks for, and no rule is known. Assumes nothing.
use borrow.Author.Rules.{rules}
use Rattle.trials.proofs.Trying.{obligation_room}
use Rattle.trimming.proofs.Knowing.{known_none}
use Rattle.trimming.proofs.next_struck.Goals as goal

pub any_obligations-obliged-requires : goal.any_obligations-obliged-requires
any_obligations-obliged-requires c = let pre = c.requires in obligation_room pre.0 pre.1

pub next_rule-requires : goal.next_rule-requires
next_rule-requires c =
    let pre = c.requires in
    let found = c.find_outcomes.ensures in
    (record { steady = pre.0; ready = pre.1; matched = found.0; holds = found.2 }, search rules, known_none _ _ _ _ _ pre.1.few)

pub returns : goal.returns
returns c = let next = c.next_rule.ensures in (next.0, next.1)
