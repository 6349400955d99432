-- `Conflicts::find`: what the functions that it calls lay down. Assumes nothing.
use Rattle.reporting.proofs.Finding.{conflicts_found}
use Rattle.reporting.proofs.Conflicts.find.Goals as goal

pub returns : goal.returns
returns c =
    let pre = c.requires in
    let given = c.give_all.ensures in
    conflicts_found _ _ c.apply_all.new.applied c.give_all.new.permits c.give_all.new.denies _ _ _ c.apply_all.ensures.0 given.0 given.1 c.parent_all.ensures c.pair_all.ensures.0
