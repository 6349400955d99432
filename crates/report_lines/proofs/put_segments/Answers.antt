use native.Mathlib.Omega.{arith}
use Rattle.printing.proofs.Walks.{begun, stored, passed_over, ended_all}
use Rattle.report_lines.specs.Lines.{segment_text}
use Rattle.report_lines.proofs.LineTexts.{no_segment, is_segment}
use Rattle.report_lines.proofs.put_segments.Goals as goal

pub loop-m-init : goal.loop-m-init
loop-m-init c = begun

pub loop-m-preserved-then-size-eq0 : goal.loop-m-preserved-then-size-eq0
loop-m-preserved-then-size-eq0 c =
    let l = c.loop-m in
    let none = no_segment _ _ _ _ _ _ l.m c.if-size-eq0.true in
    passed_over l.invariant none

pub put_segment-requires : goal.put_segment-requires
put_segment-requires c =
    let pre = c.requires in
    let l = c.loop-m in
    (pre.0, omega (arith, pre.1), omega (arith, pre.1, l.invariant.within))

pub loop-m-preserved : goal.loop-m-preserved
loop-m-preserved c =
    let l = c.loop-m in
    let line = is_segment _ _ _ _ _ _ l.m c.if-size-eq0.false c.put_segment.ensures in
    stored l.invariant line

pub returns : goal.returns
unfolding segment_text
returns c =
    let args = c.args in
    let l = c.loop-m in
    (ended_all l.invariant args.policy.now.shape.space (omega arith), omega (arith, l.invariant, c.requires.1))
