-- `line_of`: the lines so far, and those of the elements that come before it, are all. Assumes nothing.
use mathlib.Core.Path.{ap}
use native.Mathlib.Nat.{sub-zero}
use native.Mathlib.Omega.{arith}
use Rattle.accepting.specs.Judged.{lines_from}
use Rattle.accepting.proofs.Lines.{line_struck, lines_left_lem, no_more}
use Rattle.accepting.proofs.line_of.Goals as goal

pub loop-j-init : goal.loop-j-init
loop-j-init c =
    let a = c.args in
    (omega arith, omega (arith, ap (lines_from a.places.now a.struck.now 0) (sub-zero a.i)))

pub loop-j-preserved-then-struck-j-ne0 : goal.loop-j-preserved-then-struck-j-ne0
loop-j-preserved-then-struck-j-ne0 c =
    let a = c.args in
    let turn = c.loop-j in
    (omega (arith, turn.invariant.0), omega (arith, turn.invariant.1, line_struck a.places.now a.struck.now a.i turn.j c.loop-j-test.true (omega (arith, c.if-struck-j-ne0.true))))

pub obligation_count-requires : goal.obligation_count-requires
obligation_count-requires c = omega (arith, c.requires.0, c.loop-j-test.true)

pub overflow_add-line-in-loop-j-2 : goal.overflow_add-line-in-loop-j-2
overflow_add-line-in-loop-j-2 c =
    let pre = c.requires in
    omega (arith, c.loop-j.invariant.0, c.obligation_count.ensures.within, pre.2, pre.3)

pub loop-j-preserved : goal.loop-j-preserved
loop-j-preserved c =
    let a = c.args in
    let turn = c.loop-j in
    let count = c.obligation_count.ensures in
    (omega (arith, turn.invariant.0, count.within), omega (arith, turn.invariant.1, count.value, lines_left_lem a.places.now a.struck.now a.i turn.j c.loop-j-test.true (omega (arith, c.if-struck-j-ne0.false))))

pub returns : goal.returns
returns c =
    let a = c.args in
    let turn = c.loop-j in
    (omega (arith, turn.invariant.1, no_more a.places.now a.struck.now a.i turn.j (omega arith) (omega (arith, c.loop-j-test.false))), omega (arith, turn.invariant.0, c.requires.2, c.requires.3))
