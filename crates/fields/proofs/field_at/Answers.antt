-- `fields::field_at` meets its contract.
use mathlib.Core.Path.{sym}
use borrow.Author.Tests.{lt-ltb, le-ltb}
use borrow.Author.Rules.{rules}
use Rattle.meaning.specs.Text.{tab}
use Rattle.text.proofs.Pieces.{piece_first}
use Rattle.fields.proofs.field_at.Goals as goal

pub returns-then-line-at : goal.returns-then-line-at
returns-then-line-at c = simp (lt-ltb _ _ c.if-line-at.true)

pub returns : goal.returns
returns c =
    let e = c.end_of-e in
    let s = c.args.line.now in
    rw (le-ltb _ _ c.if-line-at.false) (sym (piece_first tab s _ e.result e.ensures.value (search rules)))
