-- `jogimaduve_step` meets its contract: the text's refusal, or what a step gives.
use Rattle.reader.proofs.FileRead.{file_refused, sizable}
use Rattle.jogimaduve.proofs.Refusing.{step_refused}
use Rattle.jogimaduve.proofs.Holding.{held_read}
use Rattle.jogimaduve.proofs.jogimaduve_step.Goals as goal

pub returns-in-Err : goal.returns-in-Err
returns-in-Err c =
    let both = step_refused _ (file_refused c.in-Err.ensures) in
    record { value = rw c.number.ensures both.0; text_after = both.1 }

pub shape-requires : goal.shape-requires
shape-requires c = sizable c.in-Ok.ensures

pub step-requires : goal.step-requires
step-requires c = held_read c.in-Ok.ensures c.shape.ensures
