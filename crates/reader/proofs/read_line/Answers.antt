-- `read_line` meets its contract: the shape of the line says which function reads it.
use Rattle.meaning.specs.Text.{cut, tab}
use Rattle.layout.specs.Places.{part}
use Rattle.attribute_lines.specs.Steps.{read_sofar}
use Rattle.attribute_lines.proofs.LineKinds.{refused_2, of_kind}
use Rattle.attribute_lines.proofs.AttributeLines.{attribute_told}
use Rattle.obligation_lines.proofs.ObligationLines.{obligation_told}
use Rattle.reader.proofs.read_line.Goals as goal

pub attribute_line-requires : goal.attribute_line-requires
attribute_line-requires c =
    (c.requires.0.in_file, c.requires.1, of_kind _ c.shape_of-shape.ensures c.in-Attribute.is)

pub tree_line-requires : goal.tree_line-requires
tree_line-requires c =
    (c.requires.0, c.requires.1, of_kind _ c.shape_of-shape.ensures c.in-Tree.is)

pub returns-in-Attribute : goal.returns-in-Attribute
returns-in-Attribute c =
    let pre = c.requires in
    attribute_told pre.0 pre.1 (of_kind _ c.shape_of-shape.ensures c.in-Attribute.is) c.attribute_line.ensures

pub obligation_line-requires : goal.obligation_line-requires
obligation_line-requires c =
    let pre = c.requires in
    (pre.0.in_file, pre.1, of_kind _ c.shape_of-shape.ensures c.in-Obligation.is, pre.0.obliged)

pub returns-in-Obligation : goal.returns-in-Obligation
returns-in-Obligation c =
    let pre = c.requires in
    obligation_told pre.0 pre.1 (of_kind _ c.shape_of-shape.ensures c.in-Obligation.is) c.obligation_line.ensures

pub returns-in-Other : goal.returns-in-Other
returns-in-Other c =
    let a = c.args in
    refused_2 _ _ _ _ _ (of_kind (cut tab (part a.file.now a.st.now.at a.end)) c.shape_of-shape.ensures c.in-Other.is (read_sofar a.file.now a.table.now a.places.now a.st.now))
