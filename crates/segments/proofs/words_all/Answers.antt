-- `words_all`: the words of the requests before m, and the block of the last of them. Assumes nothing.
use Prim.Native.Nat.{◌/◌}
use mathlib.Core.Path.{refl}
use native.Mathlib.Omega.{arith}
use Rattle.outcomes.proofs.Laying.{lays_none, lays_next, lays_all}
use Rattle.segments.proofs.Columns.{Across, across_turned, across_here, across_later, across_same}
use Rattle.segments.proofs.words_all.Goals as goal
use Rattle.segments.proofs.words_all.Goals.{then-m-eq0, else-m-eq0}

pub loop-m-init : goal.loop-m-init
loop-m-init c = ((λ no. absurd (no refl)), lays_none _ _ _)

pub loop-m-preserved : goal.loop-m-preserved
loop-m-preserved c =
    let args = c.args in
    let turn = c.loop-m in
    let across : Across args.rows.now args.n c.if-m-eq0.block (turn.m / 64) =
    elim c.if-m-eq0.branch [
      | then-m-eq0 w ↦ across_same args.rows.now args.n (turn.m / 64) w.block-is (across_turned args.rows.now w.column-elements.result w.turned-block.result args.n (turn.m / 64) (omega arith) w.column-elements.ensures w.turned-block.ensures)
      | else-m-eq0 w ↦ across_same args.rows.now args.n (turn.m / 64) w.block-is (turn.invariant.0 w.if-m-eq0.false)
    ] in
    (across_later args.rows.now c.if-m-eq0.block args.n turn.m across, lays_next _ _ (omega arith) (across_here args.rows.now c.if-m-eq0.block args.n turn.m across) turn.invariant.1)

pub returns : goal.returns
returns c = let pre = c.requires in lays_all _ pre.3 (omega arith) c.loop-m.invariant.1
