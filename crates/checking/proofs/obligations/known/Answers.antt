-- `known` meets its contract.
use mathlib.Core.Path.{sym}
use mathlib.Core.Bool.{or-false}
use Rattle.checking.proofs.obligations.known.Goals as goal

pub same_stored-requires : goal.same_stored-requires
same_stored-requires c = (c.requires.1, (rw c.in-Some.is at c.requires.0).0)

pub returns-in-Some : goal.returns-in-Some
returns-in-Some c = sym (rw (c.in-Some.is, or-false, ← c.same_stored.ensures))

pub returns-in-None : goal.returns-in-None
returns-in-None c = sym (rw c.in-None.is)
