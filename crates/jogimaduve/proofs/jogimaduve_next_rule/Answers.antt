-- `jogimaduve_next_rule` meets its contract: the file's refusal, or what showing the next rule gives.
use mathlib.Core.Path.{refl}
use Rattle.meaning.specs.RuleByRule.{next_rule_file}
use Rattle.reader.proofs.FileRead.{sizable}
use Rattle.jogimaduve.proofs.Refusing.{refusal}
use Rattle.jogimaduve.proofs.Holding.{held_read}
use Rattle.jogimaduve.proofs.jogimaduve_next_rule.Goals as goal

pub returns-in-Err : goal.returns-in-Err
unfolding next_rule_file
returns-in-Err c = let both = refusal c.in-Err.ensures c.into.ensures c.args.out.now _ in record { value = both.0; out_after = both.1 }

pub held-requires : goal.held-requires
held-requires c = sizable c.in-Ok.ensures

pub show-requires : goal.show-requires
show-requires c = rw c.held.ensures (held_read c.in-Ok.ensures refl)
