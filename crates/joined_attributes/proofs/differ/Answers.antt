-- `differ`: names, letters and values, each by what stands in its file. Assumes nothing.
use mathlib.Core.Path.{sym, ap, ◌∙◌}
use mathlib.Core.Bool.{not}
use Rattle.meaning.specs.Text.{same_name, cut, tab}
use Rattle.layout.specs.Places.{attribute_at}
use Rattle.joined_attributes.proofs.Differing.{other_name, other_letter, by_values}
use Rattle.joined_attributes.proofs.differ.Goals as goal

pub returns-then-not-has_name : goal.returns-then-not-has_name
returns-then-not-has_name c =
    let a = attribute_at c.args.first.now.file.now c.args.first.now.attributes c.args.i in
    let b = attribute_at c.args.second.now.file.now c.args.second.now.attributes c.args.j in
    let named = c.has_name.ensures ∙ ap (λ n. same_name n a.name) c.name.ensures in
    other_name b a (sym named ∙ c.if-not-has_name.true)

pub returns-then-a-i : goal.returns-then-a-i
returns-then-a-i c =
    let a = attribute_at c.args.first.now.file.now c.args.first.now.attributes c.args.i in
    let b = attribute_at c.args.second.now.file.now c.args.second.now.attributes c.args.j in
    let named = c.has_name.ensures ∙ ap (λ n. same_name n a.name) c.name.ensures in
    other_letter b a (sym named ∙ c.if-not-has_name.false) c.if-a-i.true

pub returns : goal.returns
returns c =
    let a = attribute_at c.args.first.now.file.now c.args.first.now.attributes c.args.i in
    let b = attribute_at c.args.second.now.file.now c.args.second.now.attributes c.args.j in
    let named = c.has_name.ensures ∙ ap (λ n. same_name n a.name) c.name.ensures in
    let own = ap (cut tab) (sym c.values-2.ensures) in
    let other = ap (cut tab) (sym c.values.ensures) in
    ap not c.same.ensures ∙ by_values b a (sym named ∙ c.if-not-has_name.false) c.if-a-i.false c.values-2.result.now c.values.result.now own other
