-- `like_marks`: one word more. Assumes nothing.
use native.Mathlib.Omega.{arith}
use Rattle.differences.proofs.Likes.{like_next}
use Rattle.differences.proofs.like_marks.Goals as goal

pub loop-i-init : goal.loop-i-init
loop-i-init c = λ u set. (set, λ j l. absurd (omega arith))

pub loop-i-preserved : goal.loop-i-preserved
loop-i-preserved c =
    let args = c.args in
    let turn = c.loop-i in
    like_next args.words.now turn.i args.v args.on turn.like _ turn.invariant c.like_bit-like.ensures

pub returns : goal.returns
returns c = let inv = c.loop-i.invariant in λ u set. ((inv u set).0, λ j l. (inv u set).1 j (omega arith))

pub like_bit-like-requires : goal.like_bit-like-requires
like_bit-like-requires c = c.requires.0
