-- `names::all_names` meets its contract. The loop keeps the answer: that of the fields from `at` on.
use mathlib.Core.Path.{refl, sym, ◌∙◌}
use native.Mathlib.Omega.{arith}
use borrow.Author.Rules.{rules}
use Rattle.meaning.specs.Text.{is_name}
use Rattle.names.proofs.Fields.{every_bad, every_end, every_more}
use Rattle.names.proofs.all_names.Goals as goal

pub loop-at-init : goal.loop-at-init
loop-at-init c = (search rules, refl)

pub returns-then-not-is_name : goal.returns-then-not-is_name
returns-then-not-is_name c =
    let s = c.args.fields.now in
    let e = c.end_of-e in
    let bad = sym c.is_name.ensures ∙ c.if-not-is_name.true in
    sym (every_bad s c.loop-at.at e.result e.ensures.value is_name (search rules) bad) ∙ c.loop-at.invariant.1

pub returns-then-e-fields : goal.returns-then-e-fields
returns-then-e-fields c =
    let s = c.args.fields.now in
    let e = c.end_of-e in
    let good = sym c.is_name.ensures ∙ c.if-not-is_name.false in
    sym (every_end s c.loop-at.at e.result e.ensures.value is_name c.if-e-fields.true good) ∙ c.loop-at.invariant.1

pub loop-at-preserved : goal.loop-at-preserved
loop-at-preserved c =
    let s = c.args.fields.now in
    let e = c.end_of-e in
    let good = sym c.is_name.ensures ∙ c.if-not-is_name.false in
    (omega arith, sym (every_more s c.loop-at.at e.result e.ensures.value is_name (omega arith) good) ∙ c.loop-at.invariant.1)
