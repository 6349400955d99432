use native.Mathlib.Omega.{arith}
use Rattle.printing.proofs.Walks.{begun, stored, ended_all}
use Rattle.report_lines.specs.Lines.{conflict_text}
use Rattle.report_lines.proofs.put_conflicts.Goals as goal

pub loop-i-init : goal.loop-i-init
loop-i-init c = begun

pub put_pairs-requires : goal.put_pairs-requires
put_pairs-requires c =
    let pre = c.requires in
    let l = c.loop-i in
    (pre.0, pre.1, omega arith, omega (arith, pre.0.few, l.invariant.within))

pub loop-i-preserved : goal.loop-i-preserved
loop-i-preserved c =
    let l = c.loop-i in
    stored l.invariant c.put_pairs.ensures

pub returns : goal.returns
unfolding conflict_text
returns c =
    let args = c.args in
    let l = c.loop-i in
    (ended_all l.invariant args.policy.now.shape.n (omega arith), omega (arith, l.invariant, c.requires.0.few))
