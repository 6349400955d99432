-- `narrow`: the words before b are narrowed, the others as they were. Assumes nothing.
use native.Mathlib.Omega.{arith}
use Rattle.rows.proofs.Rows.{narrows_none, narrows_next}
use Rattle.rows.proofs.narrow.Goals as goal

pub loop-b-init : goal.loop-b-init
loop-b-init c = narrows_none _ _

pub loop-b-preserved : goal.loop-b-preserved
loop-b-preserved c = let turn = c.loop-b in narrows_next _ _ turn.row turn.b (omega (arith, turn.invariant.size)) turn.invariant

pub returns : goal.returns
returns c = λ b l. c.loop-b.invariant.done b (omega arith)
