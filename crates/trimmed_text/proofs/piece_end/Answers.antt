-- `piece_end` meets its contract.
use mathlib.Core.Path.{sym, subst}
use Rattle.trimmed_text.specs.Copied.{Piece}
use Rattle.trimmed_text.proofs.Copying.{piece_struck, piece_left}
use Rattle.trimmed_text.proofs.piece_end.Goals as goal

pub returns-then-struck-i-ne0 : goal.returns-then-struck-i-ne0
returns-then-struck-i-ne0 c =
    let a = c.args in
    piece_struck a.policy.now.file.now a.policy.now.places.now a.struck.now a.policy.now.shape.n c.requires.0 a.i c.requires.1 c.if-struck-i-ne0.true

pub returns : goal.returns
returns c =
    let a = c.args in
    subst (Piece a.policy.now.file.now a.policy.now.places.now a.struck.now a.policy.now.shape.n a.i) (sym c.lines_end.ensures) (piece_left a.policy.now.file.now a.policy.now.places.now a.struck.now a.policy.now.shape.n c.requires.0 a.i c.requires.1 c.if-struck-i-ne0.false)
