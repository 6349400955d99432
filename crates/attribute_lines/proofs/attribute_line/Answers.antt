-- `attribute_line` meets its contract: what its tests say, and the places of its name and its values.
use mathlib.Core.Path.{refl, ap, ◌∙◌}
use native.Mathlib.Omega.{arith}
use Rattle.layout.specs.Places.{line_place, added}
use Rattle.attribute_lines.proofs.AttributeLines.{attribute_parts}
use Rattle.attribute_lines.proofs.attribute_line.Goals as goal

pub overflow_add-first-2 : goal.overflow_add-first-2
overflow_add-first-2 c =
    let a = c.args in
    let parts = attribute_parts a.file.now a.st.now.at a.end c.field-name.result.now (omega (arith, c.requires.1.ends)) c.requires.2 c.field-name.ensures in
    omega arith

pub push-requires : goal.push-requires
push-requires c = c.in_ok-attribute_refusal.ensures.few refl

pub choices-requires : goal.choices-requires
choices-requires c = c.in_ok-attribute_refusal.ensures.few_values refl

pub overflow_mul-st : goal.overflow_mul-st
overflow_mul-st c =
    let small = c.in_ok-attribute_refusal.ensures.small_space refl in
    rw c.choices.ensures (omega arith)

pub returns : goal.returns
returns c =
    let a = c.args in
    let attributes = c.push.ensures ∙ ap (λ name. added a.st.now.attributes (line_place a.st.now.at a.end a.several name a.fields)) c.field-name.ensures in
    record { refusal = c.in_ok-attribute_refusal.ensures; state = rw (attributes, c.choices.ensures); same_state = tt }
