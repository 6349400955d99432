-- `lay`: the words before w are laid, the others as they were. Assumes nothing.
use native.Mathlib.Omega.{arith}
use Rattle.matching.proofs.Laying.{lays_none, lays_next, lays_all}
use Rattle.matching.proofs.lay.Goals as goal

pub loop-w-init : goal.loop-w-init
loop-w-init c = lays_none c.args.plane.now c.args.at c.args.to.now c.requires.2

pub loop-w-preserved : goal.loop-w-preserved
loop-w-preserved c =
    let turn = c.loop-w in
    lays_next c.args.plane.now c.args.at c.args.to.now turn.to turn.w c.word_moved.result turn.invariant turn.auto.w (omega arith) c.word_moved.ensures

pub returns : goal.returns
returns c =
    lays_all c.args.plane.now c.args.at c.args.to.now c.loop-w.to c.args.size c.loop-w.w c.loop-w.invariant c.requires.1 (omega arith)
