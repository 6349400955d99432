-- `repeats::many::stands_again` meets its contract: behind the field that starts here are the fields behind its end.
use Prim.Native.Nat.{◌+◌}
use native.Mathlib.Omega.{arith}
use Rattle.meaning.specs.Text.{tab}
use Rattle.text.proofs.Pieces.{rest_of, piece_last, piece_more}
use Rattle.repeats.proofs.many.stands_again.Goals as goal

pub returns-then-e-fields : goal.returns-then-e-fields
returns-then-e-fields c =
    let a = c.args in
    let e = c.end_of-e in
    rw (piece_last tab a.fields.now a.at e.result e.ensures.value c.if-e-fields.true)

pub returns : goal.returns
returns c =
    let a = c.args in
    let e = c.end_of-e in
    rw (piece_more tab a.fields.now a.at e.result e.ensures.value (omega arith), ← rest_of a.fields.now (e.result + 1)) c.has.ensures
