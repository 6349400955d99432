-- `change_at`: what the rule moves tells where a request can get something else. Assumes nothing.
use mathlib.Core.Path.{sym, ◌∙◌}
use native.Mathlib.Omega.{arith}
use Rattle.trials.proofs.Moving.{first_element, child, block_fits, suspects, none_moved, first_moved}
use Rattle.trials.proofs.trial.change_at.Goals as goal

pub invariant_of-b : goal.invariant_of-b
invariant_of-b c =
    record { fits = block_fits c.args.o.now.policy.file.now c.args.o.now.policy.places.now c.args.o.now.policy.table.now c.args.struck.now c.args.o.now.hits.now c.args.o.now.outcomes.now c.args.o.now.policy.shape c.args.rule c.requires.0 c.args.block c.requires.2 }

pub reached-moved-requires : goal.reached-moved-requires
reached-moved-requires c =
    (c.requires.0.aside.element, child c.args.o.now.policy.file.now c.args.o.now.policy.places.now c.args.o.now.policy.table.now c.args.struck.now c.args.o.now.hits.now c.args.o.now.outcomes.now c.args.o.now.policy.shape c.args.rule c.requires.0 c.args.up c.requires.1)

pub returns-then-moved-eq0 : goal.returns-then-moved-eq0
returns-then-moved-eq0 c =
    none_moved c.args.o.now.policy.file.now c.args.o.now.policy.places.now c.args.o.now.policy.table.now c.args.struck.now c.args.o.now.hits.now c.args.o.now.outcomes.now c.args.o.now.policy.shape c.args.rule c.requires.0 c.args.block _ c.requires.2 c.args.up c.requires.1 c.reached-moved.ensures c.if-moved-eq0.true

pub overflow_mul-result : goal.overflow_mul-result
overflow_mul-result c = let pre = c.requires in omega (arith, pre.2, pre.0.aside.ready.small)

pub overflow_add-result : goal.overflow_add-result
overflow_add-result c = let pre = c.requires in omega (arith, pre.2, pre.0.aside.ready.small, c.lowest.ensures.small)

pub returns-then-eq : goal.returns-then-eq
returns-then-eq c =
    let first = first_element c.args.up (sym c.eq.ensures ∙ c.if-eq.true) in
    first_moved c.args.o.now.policy.file.now c.args.o.now.policy.places.now c.args.o.now.policy.table.now c.args.struck.now c.args.o.now.hits.now c.args.o.now.outcomes.now c.args.o.now.policy.shape c.args.rule c.requires.0 c.args.block _ c.requires.2 (rw first at c.requires.1) (rw first at c.reached-moved.ensures) _ c.lowest.ensures

pub change_among-requires : goal.change_among-requires
change_among-requires c =
    (c.requires.0, c.requires.2, suspects c.args.o.now.policy.file.now c.args.o.now.policy.places.now c.args.o.now.policy.table.now c.args.struck.now c.args.o.now.hits.now c.args.o.now.outcomes.now c.args.o.now.policy.shape c.args.rule c.requires.0 c.args.block _ c.requires.2 c.args.up c.requires.1 c.reached-moved.ensures)
