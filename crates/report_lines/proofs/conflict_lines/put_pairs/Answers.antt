use mathlib.Core.Path.{sym, ◌∙◌}
use borrow.Author.Tests.{not-true, not-false}
use native.Mathlib.Omega.{arith}
use Rattle.printing.proofs.Walks.{begun, stored, passed_over, ended_all}
use Rattle.report_lines.specs.Lines.{pair_lines}
use Rattle.report_lines.proofs.PairTexts.{no_pairs}
use Rattle.report_lines.proofs.conflict_lines.put_pairs.Goals as goal

pub loop-j-init : goal.loop-j-init
loop-j-init c = begun

pub loop-j-preserved-then-ne : goal.loop-j-preserved-then-ne
loop-j-preserved-then-ne c =
    let l = c.loop-j in
    passed_over l.invariant (no_pairs _ _ _ _ _ _ _ l.j (not-true _ (sym c.ne.ensures ∙ c.if-ne.true)))

pub put_later-requires : goal.put_later-requires
put_later-requires c =
    let pre = c.requires in
    let l = c.loop-j in
    (pre.0, pre.1, omega arith, pre.2, not-false _ (sym c.ne.ensures ∙ c.if-ne.false), omega (arith, pre.0.few, l.invariant.within))

pub loop-j-preserved : goal.loop-j-preserved
loop-j-preserved c =
    let l = c.loop-j in
    stored l.invariant c.put_later.ensures

pub returns : goal.returns
unfolding pair_lines
returns c =
    let args = c.args in
    let l = c.loop-j in
    (ended_all l.invariant args.policy.now.shape.n (omega arith), omega (arith, l.invariant, c.requires.0.few))
