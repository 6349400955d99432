-- `tell_all`: what the requests get, laid down one after the other. Assumes nothing.
use native.Mathlib.Omega.{arith}
use Rattle.outcomes.proofs.Laying.{lays_none, lays_next, lays_all}
use Rattle.outcomes.proofs.tell_all.Goals as goal

pub loop-m-init : goal.loop-m-init
loop-m-init c = lays_none _ _ _

pub bounds-decided-m : goal.bounds-decided-m
bounds-decided-m c = let size = c.loop-m.invariant.size in omega arith

pub loop-m-preserved : goal.loop-m-preserved
loop-m-preserved c = lays_next _ _ (omega arith) c.decision_of.ensures c.loop-m.invariant

pub returns : goal.returns
returns c = lays_all _ c.requires.2 (omega arith) c.loop-m.invariant
