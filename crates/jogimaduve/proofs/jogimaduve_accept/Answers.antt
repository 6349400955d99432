-- `jogimaduve_accept` meets its contract: the original's refusal, or what the proposal gets beside it.
use mathlib.Core.Path.{refl, ◌∙◌}
use Rattle.reader.proofs.FileRead.{file_refused, sizable}
use Rattle.jogimaduve.proofs.Refusing.{original_refused}
use Rattle.jogimaduve.proofs.Holding.{held_read}
use Rattle.jogimaduve.proofs.jogimaduve_accept.Goals as goal

pub returns-in-Err : goal.returns-in-Err
returns-in-Err c = c.into.ensures ∙ original_refused _ (file_refused c.in-Err.ensures) c.args.proposal.now

pub held-requires : goal.held-requires
held-requires c = sizable c.in-Ok.ensures

pub accept-requires : goal.accept-requires
accept-requires c = rw c.held.ensures (held_read c.in-Ok.ensures refl)
