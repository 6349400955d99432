-- `write_text` meets its contract: the text is too long, or fitted to the buffer.
use mathlib.Core.Path.{◌∙◌}
use borrow.Author.Rules.{rules}
use Rattle.printing.proofs.Laws.{filled}
use Rattle.printing.proofs.Fitting.{filling, untouched}
use Rattle.writing.proofs.Texts.{too_long, short_enough}
use Rattle.writing.proofs.write_text.Goals as goal
use Rattle.writing.proofs.write_text.Goals.{then-needed-room, else-needed-room}

pub returns-then-needed-gt16384 : goal.returns-then-needed-gt16384
returns-then-needed-gt16384 c =
    let (value, after) = too_long c.args.out.now c.put_file.ensures.0.wrote c.if-needed-gt16384.true in
    record { value = c.into.ensures ∙ value; out_after = after }

pub returns : goal.returns
returns c =
    let out = c.args.out.now in
    let count = c.put_file.ensures.0.wrote in
    let told = c.text_answer.ensures in
    let (value, after) =
    short_enough out count c.if-needed-gt16384.false (elim c.if-needed-room.branch [
      | then-needed-room w ↦ rw w.out-is (filling count out told w.if-needed-room.true (filled w.put_file-then-needed-room.ensures.0 (search rules)))
      | else-needed-room w ↦ rw w.out-is (untouched count out told w.if-needed-room.false)
    ])
    in
    record { value = value; out_after = after }
