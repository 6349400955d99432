-- `number_requests`: the numbers laid down one after the other. Assumes nothing.
use mathlib.Core.Path.{ap, ◌∙◌}
use native.Mathlib.Omega.{arith}
use Rattle.meaning.specs.Deciding.{decision_number}
use Rattle.outcomes.proofs.Laying.{lays_none, lays_next, lays_all, laid_at_lem}
use Rattle.outcomes.proofs.number_requests.Goals as goal

pub loop-m-init : goal.loop-m-init
loop-m-init c = lays_none _ _ _

pub bounds-decided-m : goal.bounds-decided-m
bounds-decided-m c = let size = c.loop-m.invariant.size in omega arith

pub loop-m-preserved : goal.loop-m-preserved
loop-m-preserved c =
    let given = laid_at_lem _ _ c.args.shape.space _ c.decide_requests.ensures c.loop-m.m (omega arith) in
    lays_next _ _ (omega arith) (c.decision_number.ensures.0 ∙ ap decision_number given) c.loop-m.invariant

pub returns : goal.returns
returns c = lays_all _ c.requires.1 (omega arith) c.loop-m.invariant
