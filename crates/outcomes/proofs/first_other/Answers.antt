-- `first_other`: no place passed tells two decisions. Assumes nothing.
use mathlib.Core.Path.{◌≡◌, refl, sym, ◌∙◌}
use native.Mathlib.Omega.{arith}
use borrow.Author.Tests.{not-true, not-false}
use Rattle.decisions.proofs.Same.{alike, apart}
use Rattle.blocks.specs.Bits.{decision_bit}
use Rattle.outcomes.proofs.Searching.{up_to}
use Rattle.outcomes.proofs.first_other.Goals as goal

pub loop-v-init : goal.loop-v-init
loop-v-init c = λ u l. absurd (omega arith)

pub returns-then-space-from : goal.returns-then-space-from
returns-then-space-from c =
    let turn = c.loop-v in
    λ u small l. turn.invariant u (omega arith)

pub returns-then-ne : goal.returns-then-ne
returns-then-ne c =
    let turn = c.loop-v in
    let differ : decision_bit c.args.given turn.v ≡ decision_bit c.args.before turn.v → ⊥ = λ e. apart _ _ (not-true _ (sym c.ne.ensures ∙ c.if-ne.true)) (c.decision_of.ensures ∙ e ∙ sym c.decision_of-in-loop-v.ensures) in
    record { within = omega arith; found = (turn.v, omega arith, refl, differ); none_earlier = λ u l before. turn.invariant u (omega arith) }

pub loop-v-preserved : goal.loop-v-preserved
loop-v-preserved c =
    let turn = c.loop-v in
    let args = c.args in
    let here : decision_bit args.given turn.v ≡ decision_bit args.before turn.v = sym c.decision_of.ensures ∙ alike _ _ (not-false _ (sym c.ne.ensures ∙ c.if-ne.false)) ∙ c.decision_of-in-loop-v.ensures in
    up_to (λ u. decision_bit args.given u ≡ decision_bit args.before u) turn.v turn.invariant here

pub returns : goal.returns
returns c =
    let turn = c.loop-v in
    λ u small l. turn.invariant u (omega arith)
