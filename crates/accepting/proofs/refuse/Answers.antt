-- `refuse`: the proposal's refusal, or its first other line. Assumes nothing.
use Rattle.laws.proofs.Reading.{accepted}
use Rattle.reader.proofs.FileRead.{file_refused, file_read}
use Rattle.accepting.proofs.Refusing.{told_refusal, told_line}
use Rattle.accepting.proofs.refuse.Goals as goal

pub first_other-requires : goal.first_other-requires
first_other-requires c =
    let out = c.requires in
    let (q, i, holds) = file_read c.in-Ok.ensures in
    ((accepted _ out.policy out.is_read).text.pieces, (accepted _ q i).text.pieces, (accepted _ q i).size)

pub returns-in-Ok : goal.returns-in-Ok
returns-in-Ok c =
    let (q, i, holds) = file_read c.in-Ok.ensures in
    rw c.unwrap_or.ensures (told_line c.args.file.now c.args.proposal.now c.requires q i c.first_other.ensures.value)

pub returns-in-Err : goal.returns-in-Err
returns-in-Err c = told_refusal c.args.file.now c.args.proposal.now c.requires (file_refused c.in-Err.ensures)
