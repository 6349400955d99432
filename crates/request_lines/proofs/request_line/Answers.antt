-- `request_line` meets its contract: a line of another count of fields is refused, and any other is what its fields give.
use mathlib.Core.Path.{subst}
use Rattle.request_lines.specs.Asked.{AskedAs}
use Rattle.request_lines.proofs.FieldWalk.{wrong_count_lem, right_count}
use Rattle.request_lines.proofs.request_line.Goals as goal

pub returns-then-count_pieces-a : goal.returns-then-count_pieces-a
returns-then-count_pieces-a c = wrong_count_lem c.args.file.now c.args.a.now c.args.line.now c.count_pieces.ensures c.if-count_pieces-a.true

pub returns : goal.returns
returns c =
    let args = c.args in
    let right = right_count args.file.now args.a.now args.line.now c.count_pieces.ensures c.if-count_pieces-a.false in
    subst (AskedAs args.a.now c.read_fields.result) right c.read_fields.ensures
