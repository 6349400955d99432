-- `put_deeper`: the fields before the targets, the targets and the newline. Assumes nothing.
use Rattle.joined_text.specs.Lines.{places_of}
use Rattle.joined_text.proofs.Rows.{deeper_row}
use Rattle.joined_text.proofs.lines.put_deeper.Goals as goal

pub returns : goal.returns
returns c =
    let is = c.of-l.ensures.text in
    deeper_row c.args.row.now (places_of c.args.p.now) c.args.n _ (rw is at c.targets.ensures.fields) (rw is at c.targets.ensures.short)
    (rw is at c.put_head.ensures)
    c.put_targets.ensures
    c.put.ensures
