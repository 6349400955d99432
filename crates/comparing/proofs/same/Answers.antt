-- `comparing::same` meets its contract: by lengths, or by what compares texts of one length.
use mathlib.Core.Path.{sym}
use Rattle.laws.proofs.Text.{same_length}
use Rattle.comparing.proofs.same.Goals as goal

pub returns-then-a-b : goal.returns-then-a-b
returns-then-a-b c = let a = c.args in sym (same_length a.a.now a.b.now c.if-a-b.true)
