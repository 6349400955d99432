-- `read_list` meets its contract: what was read goes to the start of the list.
use mathlib.Core.Path.{◌∙◌}
use Rattle.lists.proofs.Reading.{listed_fits, listed_told, refusal_told}
use Rattle.lists.proofs.read_list.Goals as goal

pub fill-requires : goal.fill-requires
fill-requires c = rw c.as_slice.ensures (listed_fits _ _ _ c.in-Ok.ensures)

pub returns-in-Ok : goal.returns-in-Ok
returns-in-Ok c =
    let (answer, list) = listed_told c.args.file.now _ _ c.in-Ok.ensures in
    (answer, c.fill.ensures ∙ rw c.as_slice.ensures list)

pub returns-in-Err : goal.returns-in-Err
returns-in-Err c = refusal_told _ _ _ c.in-Err.ensures c.into.ensures
