-- `first_change`: no request of the blocks passed gets anything else. Assumes nothing.
use native.Mathlib.Omega.{arith}
use Rattle.differences.proofs.Blocks.{block_passed, block_searched, block_found, none_found_at_all}
use Rattle.trials.proofs.Moving.{block_off}
use Rattle.trials.proofs.first_change.Goals as goal

pub loop-block-init : goal.loop-block-init
loop-block-init c = λ m l none. absurd (omega arith)

pub overflow_add-block-end : goal.overflow_add-block-end
overflow_add-block-end c = omega (arith, c.requires.0.aside.ready.small)

pub bounds-o-rule : goal.bounds-o-rule
bounds-o-rule c = let pre = c.requires in omega (arith, pre.0.aside.ready.few, pre.0.aside.element, pre.0.aside.ready.small, pre.0.matched.room)

pub loop-block-preserved-then-o-rule-eq0 : goal.loop-block-preserved-then-o-rule-eq0
loop-block-preserved-then-o-rule-eq0 c =
    let turn = c.loop-block in
    let off = block_off _ _ _ _ _ _ c.args.o.now.policy.shape c.args.rule c.requires.0 turn.block c.if-o-rule-eq0.true in
    block_passed _ c.args.o.now.policy.shape.space turn.block turn.invariant off

pub change_at-requires : goal.change_at-requires
change_at-requires c = let pre = c.requires in (pre.0, pre.1, omega arith)

pub returns-in-Some : goal.returns-in-Some
returns-in-Some c =
    let turn = c.loop-block in
    block_found _ c.args.o.now.policy.shape.space turn.block turn.invariant _ _ c.change_at.ensures c.in-Some.is

pub loop-block-preserved : goal.loop-block-preserved
loop-block-preserved c =
    let turn = c.loop-block in
    block_searched _ c.args.o.now.policy.shape.space turn.block turn.invariant _ c.change_at.ensures c.in_default.is

pub returns : goal.returns
returns c =
    let turn = c.loop-block in
    none_found_at_all _ c.args.o.now.policy.shape.space turn.block turn.invariant (omega arith)
