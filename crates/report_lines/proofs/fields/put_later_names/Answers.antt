use mathlib.Core.Path.{◌≡◌, sym, ◌∙◌}
use native.Mathlib.Omega.{arith}
use Rattle.printing.proofs.Laws.{then}
use Rattle.report_lines.specs.Lines.{later_names}
use Rattle.printing.proofs.Walks.{begun, stored, passed_over, ended}
use Rattle.report_lines.proofs.fields.put_later_names.Goals as goal

pub loop-i-init : goal.loop-i-init
loop-i-init c = begun

pub loop-i-preserved-then-not-has : goal.loop-i-preserved-then-not-has
loop-i-preserved-then-not-has c =
    let l = c.loop-i in
    let none = sym c.has.ensures ∙ c.if-not-has.true in
    passed_over l.invariant (rw none)

pub put_name-requires : goal.put_name-requires
put_name-requires c = (c.requires.0.each c.loop-i.i (omega arith), omega (arith, c.loop-i.invariant, c.requires, c.put.ensures.wrote.moved))

pub loop-i-preserved : goal.loop-i-preserved
loop-i-preserved c =
    let l = c.loop-i in
    let (w, within) = c.put_name.ensures in
    let v = c.put.ensures in
    let set = sym c.has.ensures ∙ c.if-not-has.false in
    stored l.invariant (rw set (then v w), omega (arith, within, v.wrote.moved))

pub returns : goal.returns
unfolding later_names
returns c =
    let args = c.args in
    let l = c.loop-i in
    let all : l.i ≡ args.policy.now.shape.n = omega arith in
    (ended l.invariant _ all, omega (arith, l.invariant.within, all))
