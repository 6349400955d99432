-- `parent_all`: the parents, laid down one after the other. Assumes nothing.
use native.Mathlib.Omega.{arith}
use Rattle.outcomes.proofs.Laying.{lays_none, lays_next, lays_all}
use Rattle.rows.proofs.parent_all.Goals as goal

pub loop-child-init : goal.loop-child-init
loop-child-init c = lays_none _ _ _

pub loop-child-preserved : goal.loop-child-preserved
loop-child-preserved c = lays_next _ _ c.loop-child-test.true c.parent.ensures.value c.loop-child.invariant

pub returns : goal.returns
returns c = lays_all _ c.requires.1 (omega arith) c.loop-child.invariant
