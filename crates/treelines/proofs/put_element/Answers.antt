-- `put_element` meets its contract: the law of a tree line.
use Rattle.meaning.specs.Model.{kind_text, name_of, word_text}
use Rattle.meaning.specs.Writing.{target_texts}
use Rattle.layout.specs.Places.{attributes_of}
use Rattle.treelines.proofs.ElementLines.{tree_line_lem}
use Rattle.treelines.proofs.put_element.Goals as goal

pub returns : goal.returns
returns c =
    let e = c.args.e in
    let attributes = attributes_of c.args.lines.now.text.now c.args.lines.now.attributes in
    tree_line_lem (kind_text e.kind) (name_of e) (word_text e.word) e.depth (target_texts attributes e.masks) c.requires.0.depth
    c.put_kind.ensures
    c.put_number.ensures
    c.put_name.ensures
    c.put_word.ensures
    c.put_targets.ensures
    c.put.ensures
