-- `text::count_fields` meets its contract. The loop keeps what the count gives: fields that ended, and the pieces of what is left.
use Prim.Native.Nat.{◌<◌}
use mathlib.Core.Path.{refl, sym, ◌∙◌}
use mathlib.Core.Bool.{true, false}
use native.Mathlib.Omega.{arith}
use borrow.Author.Rules.{rules}
use lib.ListN.{length}
use Rattle.meaning.specs.Text.{cut, tab}
use Rattle.text.proofs.Counting.{tally_start, run_empty, run_field, end_field, tab_field, other_bad}
use Rattle.text.proofs.count_fields.Goals as goal

pub loop-at-init : goal.loop-at-init
loop-at-init c = (search rules, search rules, tally_start (cut tab c.args.line.now))

pub returns-then-e-at : goal.returns-then-e-at
returns-then-e-at c =
    let v = c.visible_to-e.ensures in
    let l = c.loop-at in
    let s = c.args.line.now in
    let e = c.if-e-at.true in
    record { value = sym (run_empty s l.at l.ended (search rules) (rw e at v.ends)) ∙ l.invariant.2; few = search rules }

pub returns-then-e-line : goal.returns-then-e-line
returns-then-e-line c =
    let v = c.visible_to-e in
    let l = c.loop-at in
    let s = c.args.line.now in
    let run = run_field s l.at v.result l.ended true (omega arith) v.ensures.within v.ensures.all in
    record { value = sym (run ∙ end_field s v.result l.ended false (omega arith) refl) ∙ l.invariant.2; few = omega arith }

pub returns-then-line-e-ne9 : goal.returns-then-line-e-ne9
returns-then-line-e-ne9 c =
    let v = c.visible_to-e in
    let l = c.loop-at in
    let s = c.args.line.now in
    let run = run_field s l.at v.result l.ended true (omega arith) v.ensures.within v.ensures.all in
    let h : v.result < length s = omega arith in
    record { value = sym (run ∙ other_bad s v.result l.ended false h c.if-line-e-ne9.true (v.ensures.ends h)) ∙ l.invariant.2; few = search rules }

pub loop-at-preserved : goal.loop-at-preserved
loop-at-preserved c =
    let v = c.visible_to-e in
    let l = c.loop-at in
    let s = c.args.line.now in
    let run = run_field s l.at v.result l.ended true (omega arith) v.ensures.within v.ensures.all in
    (omega arith, omega arith, sym (run ∙ tab_field s v.result l.ended false (omega arith) c.if-line-e-ne9.false refl) ∙ l.invariant.2)
