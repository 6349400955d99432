-- `names::find` meets its contract. The loop keeps the answer: that of the fields from `at` on, counted from n.
use mathlib.Core.Path.{refl, sym, ap, ◌∙◌}
use native.Mathlib.Omega.{arith}
use borrow.Author.Rules.{rules}
use Rattle.meaning.specs.Text.{cut, tab}
use Rattle.std.specs.Prelude.{Some, None}
use Rattle.laws.specs.Found.{found}
use Rattle.names.proofs.Fields.{place_hit, place_end, place_more, found_within}
use Rattle.names.proofs.find.Goals as goal

pub loop-at-init : goal.loop-at-init
loop-at-init c = (search rules, search rules, refl)

pub returns-then-same_name : goal.returns-then-same_name
returns-then-same_name c =
    let s = c.args.fields.now in
    let e = c.end_of-e in
    let name = c.args.name.now in
    let hit = place_hit s c.loop-at.at e.result e.ensures.value name c.loop-at.n (search rules) (sym c.same_name.ensures ∙ c.if-same_name.true) in
    let told = ap found (sym hit ∙ c.loop-at.invariant.2) in
    record { value = told; within = found_within name (cut tab s) (Some c.loop-at.n) told }

pub returns-then-e-fields : goal.returns-then-e-fields
returns-then-e-fields c =
    let s = c.args.fields.now in
    let e = c.end_of-e in
    let name = c.args.name.now in
    let end = place_end s c.loop-at.at e.result e.ensures.value name c.loop-at.n c.if-e-fields.true (sym c.same_name.ensures ∙ c.if-same_name.false) in
    let told = ap found (sym end ∙ c.loop-at.invariant.2) in
    record { value = told; within = found_within name (cut tab s) None told }

pub loop-at-preserved : goal.loop-at-preserved
loop-at-preserved c =
    let s = c.args.fields.now in
    let e = c.end_of-e in
    let name = c.args.name.now in
    let more = place_more s c.loop-at.at e.result e.ensures.value name c.loop-at.n (omega arith) (sym c.same_name.ensures ∙ c.if-same_name.false) in
    (omega arith, omega arith, sym more ∙ c.loop-at.invariant.2)
