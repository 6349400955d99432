-- `text::first_line` meets its contract. The loop keeps that no newline was passed, and what the count gives.
use Prim.Native.Nat.{◌+◌}
use mathlib.Core.Path.{refl, sym, ◌∙◌}
use native.Mathlib.Omega.{arith}
use Rattle.text.proofs.LineEnds.{kept_first, line_end_from, line_last, count_empty, line_there, count_there, count_wrong, kept_next, told}
use Rattle.text.proofs.first_line.Goals as goal

pub loop-ended-init : goal.loop-ended-init
loop-ended-init c = kept_first c.args.s.now

pub visible_to-e-requires : goal.visible_to-e-requires
visible_to-e-requires c = c.loop-ended.invariant.inside

pub returns-then-e-s : goal.returns-then-e-s
returns-then-e-s c =
    let s = c.args.s.now in
    let k = c.loop-ended.invariant in
    let v = c.visible_to-e in
    told s v.result 0 (line_last s c.loop-ended.ended c.loop-ended.at v.result k v.ensures (omega arith)) (λ l. absurd (omega arith)) (λ l. refl)

pub returns-then-at-e : goal.returns-then-at-e
returns-then-at-e c =
    let s = c.args.s.now in
    let k = c.loop-ended.invariant in
    let v = c.visible_to-e in
    let w = c.wrong_line.ensures in
    told s c.wrong_line.result.end c.wrong_line.result.fields (w.0 ∙ line_end_from s c.loop-ended.ended c.loop-ended.at v.result k v.ensures) (λ l. w.2 ∙ count_empty s c.loop-ended.ended c.loop-ended.at v.result k v.ensures (sym c.if-at-e.true) (omega arith)) (λ l. w.2)

pub returns-then-b-eq10 : goal.returns-then-b-eq10
returns-then-b-eq10 c =
    let s = c.args.s.now in
    let k = c.loop-ended.invariant in
    let v = c.visible_to-e in
    told s v.result (c.loop-ended.ended + 1) (line_there s c.loop-ended.ended c.loop-ended.at v.result k v.ensures (omega arith) (omega arith) c.if-b-eq10.true) (λ l. count_there s c.loop-ended.ended c.loop-ended.at v.result k v.ensures (omega arith) l c.if-b-eq10.true) (λ l. absurd (omega arith))

pub returns-then-b-ne9 : goal.returns-then-b-ne9
returns-then-b-ne9 c =
    let s = c.args.s.now in
    let k = c.loop-ended.invariant in
    let v = c.visible_to-e in
    let w = c.wrong_line-then-b-ne9.ensures in
    told s c.wrong_line-then-b-ne9.result.end c.wrong_line-then-b-ne9.result.fields (w.0 ∙ line_end_from s c.loop-ended.ended c.loop-ended.at v.result k v.ensures) (λ l. w.2 ∙ count_wrong s c.loop-ended.ended c.loop-ended.at v.result k v.ensures (omega arith) (omega arith) c.if-b-eq10.false c.if-b-ne9.true) (λ l. w.2)

pub loop-ended-preserved : goal.loop-ended-preserved
loop-ended-preserved c =
    let s = c.args.s.now in
    let k = c.loop-ended.invariant in
    let v = c.visible_to-e in
    kept_next s c.loop-ended.ended c.loop-ended.at v.result k v.ensures (omega arith) (omega arith) c.if-b-eq10.false c.if-b-ne9.false
