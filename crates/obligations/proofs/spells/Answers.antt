-- `spells`: the two effects by their first bytes.
use mathlib.Core.Path.{sym}
use borrow.Author.Tests.{eq-eqb, ne_eqb}
use Rattle.obligations.proofs.Texts.{permit_spelled, deny_spelled}
use Rattle.obligations.proofs.spells.Goals as goal

pub returns-then-byte-eq112 : goal.returns-then-byte-eq112
returns-then-byte-eq112 c = let a = c.args in sym (rw (eq-eqb a.byte 112 c.if-byte-eq112.true) (permit_spelled a.permit))

pub returns : goal.returns
returns c = let a = c.args in sym (rw (ne_eqb a.byte 112 c.if-byte-eq112.false) (deny_spelled a.permit))
