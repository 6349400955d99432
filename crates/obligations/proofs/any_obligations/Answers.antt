-- `any_obligations`: no element from i on has one.
use mathlib.Core.Path.{◌≡◌, sym, ap, ◌∙◌}
use Prim.Native.Nat.{suc, ◌-◌}
use native.Mathlib.Omega.{arith}
use Rattle.obligations.specs.Given.{any_obliged}
use Rattle.obligations.proofs.Texts.{any_here, any_before}
use Rattle.obligations.proofs.any_obligations.Goals as goal

pub returns-then-has_obligations : goal.returns-then-has_obligations
returns-then-has_obligations c =
    let places = c.args.places.now in
    let l = c.loop-i in
    let last : l.i ≡ suc (l.i - 1) = omega arith in
    sym (l.invariant ∙ ap (any_obliged places) last ∙ any_here places (l.i - 1) (sym c.has_obligations.ensures ∙ c.if-has_obligations.true))

pub loop-i-preserved : goal.loop-i-preserved
loop-i-preserved c =
    let places = c.args.places.now in
    let l = c.loop-i in
    let last : l.i ≡ suc (l.i - 1) = omega arith in
    l.invariant ∙ ap (any_obliged places) last ∙ any_before places (l.i - 1) (sym c.has_obligations.ensures ∙ c.if-has_obligations.false)

pub returns : goal.returns
unfolding any_obliged
returns c =
    let none : c.loop-i.i ≡ 0 = omega arith in
    sym (c.loop-i.invariant ∙ ap (any_obliged c.args.places.now) none)
