use native.Mathlib.Omega.{arith}
use Rattle.printing.proofs.Walks.{begun, stored, ended_all}
use Rattle.report_lines.specs.Lines.{kept_text}
use Rattle.report_lines.proofs.put_kept.Goals as goal

pub loop-i-init : goal.loop-i-init
loop-i-init c = begun

pub put_kept_rule-requires : goal.put_kept_rule-requires
put_kept_rule-requires c =
    let pre = c.requires in
    (pre.0.each c.loop-i.i (omega arith), omega (arith, pre.0.few), pre.1, omega (arith, pre.0.few, c.loop-i.invariant.within))

pub loop-i-preserved : goal.loop-i-preserved
loop-i-preserved c =
    let l = c.loop-i in
    stored l.invariant c.put_kept_rule.ensures

pub returns : goal.returns
unfolding kept_text
returns c =
    let args = c.args in
    let l = c.loop-i in
    (ended_all l.invariant args.policy.now.shape.n (omega arith), omega (arith, l.invariant, c.requires.0.few))
