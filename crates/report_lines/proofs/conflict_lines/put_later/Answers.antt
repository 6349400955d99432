use mathlib.Core.Path.{refl, sym, ◌∙◌}
use borrow.Author.Tests.{not-true, not-false}
use native.Mathlib.Omega.{arith}
use Rattle.printing.proofs.Walks.{begun, stored, passed_over, ended}
use Rattle.report_lines.proofs.PairTexts.{not_child, no_conflict, is_conflict, all_pairs}
use Rattle.report_lines.proofs.conflict_lines.put_later.Goals as goal

pub loop-k-init : goal.loop-k-init
loop-k-init c = begun

pub loop-k-preserved-then-ne : goal.loop-k-preserved-then-ne
loop-k-preserved-then-ne c =
    let l = c.loop-k in
    passed_over l.invariant (not_child _ _ _ _ _ _ _ _ l.k (not-true _ (sym c.ne.ensures ∙ c.if-ne.true)))

pub loop-k-preserved-then-shape-request : goal.loop-k-preserved-then-shape-request
loop-k-preserved-then-shape-request c =
    let l = c.loop-k in
    passed_over l.invariant (no_conflict _ _ _ _ _ _ _ _ l.k _ (not-false _ (sym c.ne.ensures ∙ c.if-ne.false)) refl c.if-shape-request.true)

pub put_conflict-requires : goal.put_conflict-requires
put_conflict-requires c =
    let pre = c.requires in
    let l = c.loop-k in
    (pre.0.each _ pre.3, pre.0.each _ pre.2, pre.0.each l.k (omega arith), omega (arith, pre.1), omega (arith, pre.0.few, l.invariant.within))

pub loop-k-preserved : goal.loop-k-preserved
loop-k-preserved c =
    let l = c.loop-k in
    let line = is_conflict _ _ _ _ _ _ _ _ l.k _ (not-false _ (sym c.ne.ensures ∙ c.if-ne.false)) refl c.if-shape-request.false c.put_conflict.ensures in
    stored l.invariant line

pub returns : goal.returns
returns c =
    let args = c.args in
    let l = c.loop-k in
    (all_pairs _ _ _ _ _ _ _ _ c.requires.4 (ended l.invariant args.policy.now.shape.n (omega arith)), omega (arith, l.invariant, c.requires.0.few))
