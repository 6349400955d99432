-- `touched`: one element more, which is struck or is not. Assumes nothing.
use native.Mathlib.Omega.{arith}
use Rattle.differences.proofs.Words.{touched_skip, touched_next}
use Rattle.differences.proofs.touched.Goals as goal
use Rattle.differences.proofs.touched.Goals.{then-struck-i-ne0, else-struck-i-ne0}

pub loop-i-init : goal.loop-i-init
loop-i-init c = λ v j off l. absurd (omega arith)

pub loop-i-preserved : goal.loop-i-preserved
loop-i-preserved c =
    let args = c.args in
    let turn = c.loop-i in
    elim c.if-struck-i-ne0.branch [
      | then-struck-i-ne0 w ↦ rw w.word-is (touched_next args.struck.now args.hits.now args.block turn.word turn.i turn.invariant)
      | else-struck-i-ne0 w ↦ rw w.word-is (touched_skip args.struck.now args.hits.now args.block turn.word turn.i turn.invariant w.if-struck-i-ne0.false)
    ]

pub returns : goal.returns
returns c = let inv = c.loop-i.invariant in λ v j off l. inv v j off (omega arith)
