-- `jogimaduve_strike` meets its contract: the file's refusal, or what striking the rule of a name gives.
use mathlib.Core.Path.{refl}
use Rattle.meaning.specs.RuleByRule.{strike_file}
use Rattle.reader.proofs.FileRead.{sizable}
use Rattle.jogimaduve.proofs.Refusing.{refusal}
use Rattle.jogimaduve.proofs.Holding.{held_read}
use Rattle.jogimaduve.proofs.jogimaduve_strike.Goals as goal

pub returns-in-Err : goal.returns-in-Err
unfolding strike_file
returns-in-Err c = let both = refusal c.in-Err.ensures c.into.ensures c.args.out.now _ in record { value = both.0; out_after = both.1 }

pub held-requires : goal.held-requires
held-requires c = sizable c.in-Ok.ensures

pub strike-requires : goal.strike-requires
strike-requires c = rw c.held.ensures (held_read c.in-Ok.ensures refl)
