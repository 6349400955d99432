-- `is_needless`: what is laid down is what trying a rule asks for. Assumes nothing.
use mathlib.Core.Path.{sym}
use Rattle.trials.proofs.Trying.{needless_other, obligation_room}
use Rattle.trials.proofs.is_needless.Goals as goal

pub any_obligations-obliged-requires : goal.any_obligations-obliged-requires
any_obligations-obliged-requires c = let pre = c.requires in obligation_room pre.0 pre.1

pub try_rule-requires : goal.try_rule-requires
try_rule-requires c =
    let pre = c.requires in
    let found = c.find_outcomes.ensures in
    (record { steady = pre.0; ready = pre.1; matched = found.0; holds = found.2 }, pre.2)

pub returns-in-Needless : goal.returns-in-Needless
returns-in-Needless c = let (needless, same) = c.in-Needless.ensures in (sym needless, same)

pub returns-in-Needed : goal.returns-in-Needed
returns-in-Needed c = let (needed, same) = c.in-Needed.ensures in (sym needed.0, same)

pub returns-in-Other : goal.returns-in-Other
returns-in-Other c =
    let p = c.args.policy in
    let (other, same) = c.in-Other.ensures in
    (sym (needless_other p.file.now p.places.now p.table.now c.args.struck.now p.shape c.args.i other), same)
