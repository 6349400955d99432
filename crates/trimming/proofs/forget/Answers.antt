-- `forget`: place by place. Assumes nothing.
use mathlib.Core.Path.{refl, sym, ◌∙◌}
use native.Mathlib.Omega.{arith}
use borrow.Author.Tests.{not-true, not-false}
use Rattle.laws.proofs.Bools.{contradiction}
use Rattle.trimming.proofs.Knowing.{forgets_none, forgets_keep, forgets_drop}
use Rattle.trimming.proofs.forget.Goals as goal

pub loop-i-init : goal.loop-i-init
loop-i-init c = forgets_none _ _ _

pub loop-i-preserved-then-not-hint : goal.loop-i-preserved-then-not-hint
loop-i-preserved-then-not-hint c = forgets_keep c.loop-i.invariant (λ is_known. contradiction is_known (not-true _ c.if-not-hint.true))

pub matches_rule-requires : goal.matches_rule-requires
matches_rule-requires c =
    let turn = c.loop-i in
    let same = turn.invariant.behind turn.i (omega arith) in
    (rw same (c.requires.2 turn.i (omega arith) (rw same at (not-false _ c.if-not-hint.false))), c.requires.0)

pub loop-i-preserved-then-not-matches_rule : goal.loop-i-preserved-then-not-matches_rule
loop-i-preserved-then-not-matches_rule c = forgets_keep c.loop-i.invariant (λ is_known. sym c.matches_rule.ensures ∙ c.if-not-matches_rule.true)

pub loop-i-preserved : goal.loop-i-preserved
loop-i-preserved c = forgets_drop c.loop-i.invariant _ refl (omega (arith, c.requires.1, c.loop-i.invariant.same_length))

pub returns : goal.returns
returns c =
    let inv = c.loop-i.invariant in
    record { same_length = inv.same_length; still = λ j l is_known. inv.still j (omega arith) is_known }
