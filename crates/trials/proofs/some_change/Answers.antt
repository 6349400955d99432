-- `some_change`: a request of the hint's block that gets something else, or the search over all. Assumes nothing.
use native.Mathlib.Omega.{arith}
use Rattle.table.specs.Shape.{hit_of}
use Rattle.trials.specs.Decided.{apart_at}
use Rattle.trials.proofs.Trying.{tries_first}
use Rattle.trials.proofs.some_change.Goals as goal

pub group_over-up-requires : goal.group_over-up-requires
group_over-up-requires c = let aside = c.requires.aside in omega (arith, aside.ready.rows, aside.element)

pub change_at-requires : goal.change_at-requires
change_at-requires c = (c.requires, c.group_over-up.ensures, omega arith)

pub first_change-requires : goal.first_change-requires
first_change-requires c = (c.requires, c.group_over-up.ensures)

pub returns : goal.returns
returns c =
    let p = c.args.o.now.policy in
    tries_first (apart_at p.file.now p.places.now p.table.now p.shape.n (hit_of p.shape) c.args.struck.now c.args.rule) p.shape.space _ c.first_change.ensures
