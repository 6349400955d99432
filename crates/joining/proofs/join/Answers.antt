-- `join`: the second file's refusal, or what joining both gives. Assumes nothing.
use Rattle.reader.proofs.FileRead.{file_refused, file_read}
use Rattle.joining.proofs.Starts.{file_held}
use Rattle.joining.proofs.Told.{second_refused}
use Rattle.joining.proofs.join.Goals as goal

pub returns-in-Err : goal.returns-in-Err
returns-in-Err c =
    let args = c.args in
    let both = second_refused args.first.now.file.now args.second.now args.word.now args.out.now args.first.now.attributes args.first.now.from c.requires _ _ (file_refused c.in-Err.ensures) c.into.ensures in
    record { value = both.0; out_after = both.1 }

pub join_both-requires : goal.join_both-requires
join_both-requires c =
    let (q, i, holds) = file_read c.in-Ok.ensures in
    (c.requires, file_held _ _ _ _ q i holds)
