-- `put_head`: letter, depth, name and word, with a tab behind each but the last. Assumes nothing.
use mathlib.Core.Path.{ap, ◌∙◌}
use native.Mathlib.Omega.{arith}
use lib.ListN.{length}
use Rattle.meaning.specs.Text.{tab}
use Rattle.meaning.specs.Reading.{depth_of}
use Rattle.joined_text.proofs.Targets.{piece_short}
use Rattle.joined_text.proofs.Rows.{field_room, head_row_lem}
use Rattle.joined_text.proofs.lines.put_head.Goals as goal

pub put_number-requires : goal.put_number-requires
put_number-requires c =
    omega (arith, c.requires, field_room c.args.l.now.text.now 0 c.letter.ensures c.put_field.ensures, c.depth_of-depth.ensures.within)

pub put_field-requires-2 : goal.put_field-requires-2
put_field-requires-2 c =
    let row = c.args.l.now.text.now in
    omega (arith, c.requires, field_room row 0 c.letter.ensures c.put_field.ensures, c.depth_of-depth.ensures.within, c.put_number.ensures.1, ap length c.name.ensures, piece_short tab row 2)

pub put_bytes-requires : goal.put_bytes-requires
put_bytes-requires c =
    let row = c.args.l.now.text.now in
    omega (arith, c.requires, field_room row 0 c.letter.ensures c.put_field.ensures, c.depth_of-depth.ensures.within, c.put_number.ensures.1, field_room row 2 c.name.ensures c.put_field-2.ensures, ap length c.word.ensures, piece_short tab row 3)

pub returns : goal.returns
returns c =
    head_row_lem c.args.l.now.text.now c.letter.ensures (c.depth_of-depth.ensures.value ∙ ap depth_of c.depth.ensures) c.depth_of-depth.ensures.within c.name.ensures c.word.ensures
    c.put_field.ensures
    c.put_number.ensures
    c.put_field-2.ensures
    c.put_bytes.ensures
