-- `repeats::many::none_again` meets its contract. The loop keeps that no field passed stands twice, and that the suspects passed have marks.
use mathlib.Core.Path.{refl, sym, ap, ◌∙◌}
use mathlib.Core.Bool.{not}
use mathlib.Core.List.{[]}
use native.Mathlib.Omega.{arith}
use borrow.Author.Rules.{rules}
use lib.ListN.{get_or, drop}
use Rattle.meaning.specs.Text.{repeated, cut, tab}
use Rattle.repeats.proofs.Backward.{at_parts, end_parts, next_parts}
use Rattle.repeats.proofs.Repeats.{again_repeated, passing, none_more}
use Rattle.repeats.proofs.many.none_again.Goals as goal

pub loop-passed-init : goal.loop-passed-init
loop-passed-init c =
    let e = end_parts c.args.fields.now in
    (search rules, ap (λ ps. get_or ps 0 []) e, rw e refl, rw e refl)

pub passes_again-requires : goal.passes_again-requires
passes_again-requires c =
    passing c.last_field-last.ensures c.loop-passed.invariant.0 c.args.suspects.now.words c.loop-passed.passed.words c.requires c.loop-passed.invariant.2

pub returns-then-passes_again : goal.returns-then-passes_again
returns-then-passes_again c =
    ap not (sym (again_repeated c.last_field-last.ensures c.loop-passed.invariant.0 (sym c.passes_again.ensures.value ∙ c.if-passes_again.true)))

pub returns-then-start-eq0 : goal.returns-then-start-eq0
returns-then-start-eq0 c =
    let s = c.args.fields.now in
    let l = c.last_field-last.ensures in
    let none = none_more l c.loop-passed.invariant.0 (sym c.passes_again.ensures.value ∙ c.if-passes_again.false) c.loop-passed.invariant.3 in
    ap not (sym none ∙ ap (λ i. repeated (cut tab (drop i s))) c.if-start-eq0.true)

pub loop-passed-preserved : goal.loop-passed-preserved
loop-passed-preserved c =
    let s = c.args.fields.now in
    let last = c.last_field-last in
    let passed = c.passes_again.ensures in
    let l = last.ensures in
    let inv = c.loop-passed.invariant in
    let next = next_parts l inv.0 c.if-start-eq0.false in
    let others = ap (drop 1) next in (
      omega (arith, l.within),
      ap (λ ps. get_or ps 0 []) next,
      rw (others, at_parts s last.result.start) passed.kept,
      rw others (none_more l inv.0 (sym passed.value ∙ c.if-passes_again.false) inv.3),
    )
