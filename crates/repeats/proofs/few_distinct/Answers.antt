-- `repeats::few_distinct` meets its contract. The loop keeps the answer: that of the fields from `at` on.
use mathlib.Core.Path.{refl, sym, ap, ◌∙◌}
use mathlib.Core.Bool.{not}
use native.Mathlib.Omega.{arith}
use borrow.Author.Rules.{rules}
use Rattle.repeats.proofs.Fields.{repeated_end, repeated_hit, repeated_more}
use Rattle.repeats.proofs.few_distinct.Goals as goal

pub loop-at-init : goal.loop-at-init
loop-at-init c = (search rules, refl)

pub returns-then-e-fields : goal.returns-then-e-fields
returns-then-e-fields c =
    let s = c.args.fields.now in
    let e = c.end_of-e in
    ap not (sym (repeated_end s c.loop-at.at e.result e.ensures.value c.if-e-fields.true) ∙ c.loop-at.invariant.1)

pub returns-then-has : goal.returns-then-has
returns-then-has c =
    let s = c.args.fields.now in
    let e = c.end_of-e in
    ap not (sym (repeated_hit s c.loop-at.at e.result e.ensures.value (omega arith) (sym c.has.ensures ∙ c.if-has.true)) ∙ c.loop-at.invariant.1)

pub loop-at-preserved : goal.loop-at-preserved
loop-at-preserved c =
    let s = c.args.fields.now in
    let e = c.end_of-e in
    (omega arith, sym (repeated_more s c.loop-at.at e.result e.ensures.value (omega arith) (sym c.has.ensures ∙ c.if-has.false)) ∙ c.loop-at.invariant.1)
