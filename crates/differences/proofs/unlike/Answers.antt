-- `unlike`: one element more, which has obligations or has none. Assumes nothing.
use mathlib.Core.Path.{sym, ◌∙◌}
use native.Mathlib.Omega.{arith}
use Rattle.differences.proofs.Words.{marked_skip, marked_next}
use Rattle.differences.proofs.unlike.Goals as goal
use Rattle.differences.proofs.unlike.Goals.{then-has_obligations, else-has_obligations}

pub loop-i-init : goal.loop-i-init
loop-i-init c = λ v j off l. absurd (omega arith)

pub loop-i-preserved : goal.loop-i-preserved
loop-i-preserved c =
    let args = c.args in
    let turn = c.loop-i in
    elim c.if-has_obligations.branch [
      | then-has_obligations w ↦ rw w.word-is (marked_next args.places.now args.one.now args.other.now turn.word turn.i turn.invariant)
      | else-has_obligations w ↦ rw w.word-is (marked_skip args.places.now args.one.now args.other.now turn.word turn.i turn.invariant (sym c.has_obligations.ensures ∙ w.if-has_obligations.false))
    ]

pub returns : goal.returns
returns c = let inv = c.loop-i.invariant in λ v j off l. inv v j off (omega arith)
