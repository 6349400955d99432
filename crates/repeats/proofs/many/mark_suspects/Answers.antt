-- `repeats::many::mark_suspects` meets its contract. The loop keeps that the fields passed have marks, and those of them that stand again behind are suspects.
use mathlib.Core.Path.{refl, sym, ap, ◌∙◌}
use mathlib.Core.Bool.{true}
use mathlib.Core.List.{[]}
use native.Mathlib.Omega.{arith}
use borrow.Author.Rules.{rules}
use lib.ListN.{get_or, drop}
use Rattle.meaning.specs.Text.{cut, tab}
use Rattle.repeats.specs.Marks.{first_at, others_at}
use Rattle.repeats.proofs.Backward.{end_parts, passed_parts, next_parts}
use Rattle.repeats.proofs.Repeats.{kept_step, caught_step}
use Rattle.repeats.proofs.many.mark_suspects.Goals as goal

pub loop-passed-init : goal.loop-passed-init
loop-passed-init c =
    let e = end_parts c.args.fields.now in
    (search rules, ap (λ ps. get_or ps 0 []) e, rw e refl, rw e c.requires)

pub returns-then-last-eq0 : goal.returns-then-last-eq0
returns-then-last-eq0 c =
    let s = c.args.fields.now in
    let l = c.last_field-last.ensures in
    let h = c.last_field-last.result.hash in
    let inv = c.loop-passed.invariant in
    let start = c.last_field-last.result.start in
    let whole = ap (λ i. cut tab (drop i s)) (sym c.if-last-eq0.true) ∙ passed_parts l inv.0 in
    rw (c.suspect.ensures.suspects_after, whole) (caught_step c.loop-passed.suspects.words (first_at s start) (others_at s c.loop-passed.end) h l.hashed c.loop-passed.passed.words inv.2 inv.3)

pub loop-passed-preserved : goal.loop-passed-preserved
loop-passed-preserved c =
    let s = c.args.fields.now in
    let last = c.last_field-last in
    let note = c.suspect.ensures in
    let l = last.ensures in
    let h = last.result.hash in
    let start = last.result.start in
    let inv = c.loop-passed.invariant in
    let next = next_parts l inv.0 c.if-last-eq0.false in
    let others = ap (drop 1) next ∙ passed_parts l inv.0 in
    let fs = others_at s c.loop-passed.end in (
      omega (arith, l.within),
      ap (λ ps. get_or ps 0 []) next,
      rw (note.passed_after, others) (kept_step c.loop-passed.passed.words (first_at s start) fs h l.hashed (λ k. true) inv.2),
      rw (note.suspects_after, others) (caught_step c.loop-passed.suspects.words (first_at s start) fs h l.hashed c.loop-passed.passed.words inv.2 inv.3),
    )
