-- `leave_out`: what is left to match tells what the whole does. Assumes nothing.
use mathlib.Core.Path.{refl, sym, ap, ◌∙◌}
use native.Mathlib.Nat.{sub-zero}
use native.Mathlib.Omega.{arith}
use lib.ListN.{length-set}
use Rattle.layout.specs.Places.{start_of}
use Rattle.table.proofs.Rows.{effect_number, group_number}
use Rattle.trimmed_text.proofs.Copying.{lines_lie}
use Rattle.left_out.specs.Leaving.{leaving_from}
use Rattle.left_out.proofs.Turns.{enough, other_start, start_matched, at_end, matched_next, struck_next, other_next}
use Rattle.left_out.proofs.leave_out.Goals as goal

pub begins-requires : goal.begins-requires
begins-requires c =
    let a = c.args in let lies = c.requires.0.inside 0 c.requires.0.some in (omega arith, omega arith, lies)

pub returns-then-not-begins : goal.returns-then-not-begins
returns-then-not-begins c =
    let a = c.args in
    let e = other_start a.policy.file.now a.policy.places.now a.policy.table.now a.policy.shape.n a.proposal.now a.struck.now (sym c.begins.ensures ∙ c.if-not-begins.true) in
    (sym (ap (λ x. x.whole) e), sym (ap (λ x. x.flags) e))

pub loop-i-init : goal.loop-i-init
loop-i-init c =
    let a = c.args in
    let matched = sym c.begins.ensures ∙ c.if-not-begins.false in
    let room = enough a.proposal.now a.policy.file.now 0 0 (start_of a.policy.places.now 0) (omega arith) (c.requires.0.inside 0 c.requires.0.some) matched in
    (omega (arith, room), refl, ap (λ m. leaving_from a.policy.file.now a.policy.places.now a.policy.table.now a.policy.shape.n a.proposal.now m 0 (start_of a.policy.places.now 0) a.struck.now) (sub-zero a.policy.shape.n))

pub begins-requires-in-loop-i : goal.begins-requires-in-loop-i
begins-requires-in-loop-i c =
    let a = c.args in
    let (low, high) = lines_lie a.policy.file.now a.policy.places.now a.struck.now a.policy.shape.n c.requires.0 _ c.loop-i-test.true in
    let end = c.lines_end-end.ensures in
    (c.loop-i.invariant.0, omega (arith, low, end), omega (arith, high, end))

pub overflow_sub-at : goal.overflow_sub-at
overflow_sub-at c =
    let a = c.args in
    omega (arith, (lines_lie a.policy.file.now a.policy.places.now a.struck.now a.policy.shape.n c.requires.0 _ c.loop-i-test.true).0, c.lines_end-end.ensures)

pub overflow_add-at : goal.overflow_add-at
overflow_add-at c =
    let a = c.args in
    let end = c.lines_end-end.ensures in
    let high = (lines_lie a.policy.file.now a.policy.places.now a.struck.now a.policy.shape.n c.requires.0 _ c.loop-i-test.true).1 in
    omega (arith, enough a.proposal.now a.policy.file.now _ _ _ c.loop-i.invariant.0 (omega (arith, high, end)) (sym c.begins-in-loop-i.ensures ∙ c.if-begins.true))

pub loop-i-preserved-then-begins : goal.loop-i-preserved-then-begins
loop-i-preserved-then-begins c =
    let a = c.args in
    let turn = c.loop-i in
    let end = c.lines_end-end.ensures in
    let inside = c.loop-i-test.true in
    let high = (lines_lie a.policy.file.now a.policy.places.now a.struck.now a.policy.shape.n c.requires.0 _ inside).1 in
    let matched = sym c.begins-in-loop-i.ensures ∙ c.if-begins.true in (
      enough a.proposal.now a.policy.file.now _ _ _ turn.invariant.0 (omega (arith, high, end)) matched,
      turn.invariant.1,
      sym (matched_next a.policy.file.now a.policy.places.now a.policy.table.now a.policy.shape.n a.proposal.now turn.i turn.at _ turn.struck inside end matched) ∙ turn.invariant.2,
    )

pub returns-in_default : goal.returns-in_default
returns-in_default c =
    let a = c.args in
    let turn = c.loop-i in
    let e = sym (other_next a.policy.file.now a.policy.places.now a.policy.table.now a.policy.shape.n a.proposal.now turn.i turn.at _ turn.struck c.loop-i-test.true c.lines_end-end.ensures (sym c.begins-in-loop-i.ensures ∙ c.if-begins.false) (group_number _ c.word_at.result c.word_at.ensures c.in_default.not-Permit c.in_default.not-Deny)) ∙ turn.invariant.2 in
    let all = e ∙ sym (start_matched a.policy.file.now a.policy.places.now a.policy.table.now a.policy.shape.n a.proposal.now a.struck.now (sym c.begins.ensures ∙ c.if-not-begins.false)) in
    (ap (λ x. x.whole) all, ap (λ x. x.flags) all)

pub loop-i-preserved : goal.loop-i-preserved
loop-i-preserved c =
    let a = c.args in
    let turn = c.loop-i in (
      turn.invariant.0,
      length-set turn.struck turn.i 1 ∙ turn.invariant.1,
      sym (struck_next a.policy.file.now a.policy.places.now a.policy.table.now a.policy.shape.n a.proposal.now turn.i turn.at _ turn.struck c.loop-i-test.true c.lines_end-end.ensures (sym c.begins-in-loop-i.ensures ∙ c.if-begins.false) (effect_number _ c.word_at.result c.word_at.ensures c.in-Permit.is)) ∙ turn.invariant.2,
    )

pub returns : goal.returns
returns c =
    let a = c.args in
    let turn = c.loop-i in
    let all = sym (at_end a.policy.file.now a.policy.places.now a.policy.table.now a.policy.shape.n a.proposal.now turn.struck turn.i turn.at (omega arith) (omega (arith, c.loop-i-test.false))) ∙ turn.invariant.2 ∙ sym (start_matched a.policy.file.now a.policy.places.now a.policy.table.now a.policy.shape.n a.proposal.now a.struck.now (sym c.begins.ensures ∙ c.if-not-begins.false)) in
    (ap (λ x. x.whole) all, ap (λ x. x.flags) all)
