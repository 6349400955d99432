-- `accept`: the text's refusal, or the text where it fits. Assumes nothing.
use Rattle.reader.proofs.FileRead.{file_refused, file_read}
use Rattle.joining.proofs.Told.{text_refused, text_accepted}
use Rattle.joining.proofs.accept.Goals as goal

pub returns-in-Err : goal.returns-in-Err
returns-in-Err c =
    let args = c.args in
    text_refused args.text.now args.out.now c.into.result _ _ (file_refused c.in-Err.ensures) c.into.ensures

pub returns-in-Ok : goal.returns-in-Ok
returns-in-Ok c =
    let (j, i, holds) = file_read c.in-Ok.ensures in
    text_accepted c.args.text.now c.args.out.now _ j _ i c.answer.ensures
