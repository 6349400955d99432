-- `header_line` meets its contract: the step over an attribute line, and the refusals of any other.
use mathlib.Core.Path.{refl}
use Rattle.meaning.specs.Text.{cut, tab}
use Rattle.layout.specs.Places.{part}
use Rattle.attribute_lines.proofs.LineKinds.{of_kind}
use Rattle.attribute_lines.proofs.AttributeLines.{attribute_told}
use Rattle.header.specs.Among.{sofar_at}
use Rattle.header.proofs.HeaderLines.{past_attribute, past_tree, past_obligation, past_other}
use Rattle.header.proofs.header_line.Goals as goal

pub attribute_line-requires : goal.attribute_line-requires
attribute_line-requires c =
    (c.requires.0.ready.in_file, c.requires.1, of_kind _ c.line_shape-shape.ensures c.in-Attribute.is)

pub returns-in-Attribute : goal.returns-in-Attribute
returns-in-Attribute c =
    let pre = c.requires in
    let line = of_kind _ c.line_shape-shape.ensures c.in-Attribute.is in
    past_attribute _ _ _ _ line (attribute_told pre.0.ready pre.1 line c.attribute_line.ensures)

pub tree_refusal-requires : goal.tree_refusal-requires
tree_refusal-requires c =
    (c.requires.0.ready.in_file.attributes.standing.few, (_, of_kind _ c.line_shape-shape.ensures c.in-Tree.is))

pub returns-in-Tree : goal.returns-in-Tree
returns-in-Tree c = past_tree _ _ _ _ _ refl c.tree_refusal.ensures

pub obligation_refusal-requires : goal.obligation_refusal-requires
obligation_refusal-requires c = of_kind _ c.line_shape-shape.ensures c.in-Obligation.is

pub returns-in-Obligation : goal.returns-in-Obligation
returns-in-Obligation c = past_obligation _ _ _ _ c.obligation_refusal.ensures

pub returns-in-Other : goal.returns-in-Other
returns-in-Other c =
    let a = c.args in
    past_other _ _ _ (of_kind (cut tab (part a.header.now a.st.now.at a.end)) c.line_shape-shape.ensures c.in-Other.is (sofar_at a.header.now a.st.now))
