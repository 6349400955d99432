-- `jogimaduve_value_pairs` meets its contract: the file's refusal, or what telling the pairs of a name gives.
use mathlib.Core.Path.{refl}
use Rattle.meaning.specs.ValuePairs.{value_pairs_file}
use Rattle.reader.proofs.FileRead.{sizable}
use Rattle.jogimaduve.proofs.Refusing.{refusal}
use Rattle.jogimaduve.proofs.Pairing.{held_read}
use Rattle.jogimaduve.proofs.jogimaduve_value_pairs.Goals as goal

pub returns-in-Err : goal.returns-in-Err
unfolding value_pairs_file
returns-in-Err c = let both = refusal c.in-Err.ensures c.into.ensures c.args.out.now _ in record { value = both.0; out_after = both.1 }

pub held-requires : goal.held-requires
held-requires c = sizable c.in-Ok.ensures

pub tell-requires : goal.tell-requires
tell-requires c = rw c.held.ensures (held_read c.in-Ok.ensures refl)
