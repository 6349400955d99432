-- `first_difference`: no request of the blocks passed gets anything else. Assumes nothing.
use Prim.Native.Nat.{◌%◌}
use mathlib.Core.Path.{ap, ◌∙◌}
use native.Mathlib.Omega.{arith}
use Rattle.meaning.specs.Deciding.{bit}
use Rattle.laws.proofs.Bits.{bit_zero}
use Rattle.differences.proofs.Apart.{obligation_room, touched_suspects}
use Rattle.differences.proofs.Blocks.{block_passed, block_searched, block_found, none_found_at_all}
use Rattle.differences.proofs.first_difference.Goals as goal

pub any_obligations-requires : goal.any_obligations-requires
any_obligations-requires c = obligation_room c.requires.0.obliged c.requires.0.ready

pub loop-block-init : goal.loop-block-init
loop-block-init c = λ m l none. absurd (omega arith)

pub overflow_add-block-end : goal.overflow_add-block-end
overflow_add-block-end c = omega (arith, c.requires.0.ready.small)

pub touched-on-requires : goal.touched-on-requires
touched-on-requires c = let compared = c.requires.0 in (compared.ready.flags, compared.ready.few, compared.matched.room, omega (arith, compared.ready.small))

-- no request of the block matches an element struck
pub loop-block-preserved-then-on-eq0 : goal.loop-block-preserved-then-on-eq0
loop-block-preserved-then-on-eq0 c =
    let args = c.args in
    let p = args.policy in
    let turn = c.loop-block in
    let suspects = touched_suspects p.file.now p.places.now p.table.now args.before.now args.struck.now args.hits.now p.shape c.requires.0.matched c.requires.1 c.loop-block.block _ c.touched-on.ensures in
    block_passed _ p.shape.space turn.block turn.invariant (λ m l e. suspects m l e (ap (λ w. bit w (m % 64)) c.if-on-eq0.true ∙ bit_zero (m % 64)))

pub difference_in-requires : goal.difference_in-requires
difference_in-requires c =
    let args = c.args in
    let p = args.policy in
    (c.requires.0, omega arith, touched_suspects p.file.now p.places.now p.table.now args.before.now args.struck.now args.hits.now p.shape c.requires.0.matched c.requires.1 c.loop-block.block _ c.touched-on.ensures)

pub returns-in-Some : goal.returns-in-Some
returns-in-Some c =
    let turn = c.loop-block in
    block_found _ c.args.policy.shape.space turn.block turn.invariant _ _ c.difference_in.ensures c.in-Some.is

pub loop-block-preserved : goal.loop-block-preserved
loop-block-preserved c =
    let turn = c.loop-block in
    block_searched _ c.args.policy.shape.space turn.block turn.invariant _ c.difference_in.ensures c.in_default.is

pub returns : goal.returns
returns c =
    let turn = c.loop-block in
    none_found_at_all _ c.args.policy.shape.space turn.block turn.invariant (omega arith)
