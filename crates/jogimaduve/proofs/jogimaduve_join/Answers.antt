-- `jogimaduve_join` meets its contract: the first file's refusal, or what joining the second one to it gives.
use Rattle.meaning.specs.Joining.{join_file}
use Rattle.reader.proofs.FileRead.{file_read}
use Rattle.jogimaduve.proofs.Refusing.{refusal}
use Rattle.joining.proofs.Starts.{file_held}
use Rattle.jogimaduve.proofs.jogimaduve_join.Goals as goal

pub returns-in-Err : goal.returns-in-Err
unfolding join_file
returns-in-Err c = let both = refusal c.in-Err.ensures c.into.ensures c.args.out.now _ in record { value = both.0; out_after = both.1 }

pub join-requires : goal.join-requires
join-requires c =
    let (p, h, holds) = file_read c.in-Ok.ensures in
    file_held _ _ _ _ p h holds
