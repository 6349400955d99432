-- `needed_all`: the requests shown, laid down one after the other under flags that stay. Assumes nothing.
use mathlib.Core.Path.{refl, ap, ◌∙◌}
use native.Mathlib.Omega.{arith}
use Rattle.laws.specs.Found.{found}
use Rattle.table.specs.Shape.{hit_of}
use Rattle.outcomes.proofs.Laying.{lays_none, lays_next, lays_all}
use Rattle.trials.specs.Decided.{shown_at}
use Rattle.trials.proofs.Trying.{asks}
use Rattle.trials.proofs.needed_all.Goals as goal

pub loop-i-init : goal.loop-i-init
loop-i-init c = (refl, lays_none _ _ _)

pub shown_by-requires : goal.shown_by-requires
shown_by-requires c = (asks c.loop-i.invariant.0 c.requires.0, omega arith)

pub loop-i-preserved : goal.loop-i-preserved
loop-i-preserved c =
    let args = c.args in
    let turn = c.loop-i in
    let shown = c.shown_by.ensures in
    let same = ap (λ flags. found (shown_at args.o.now.policy.file.now args.o.now.policy.places.now args.o.now.policy.table.now args.o.now.policy.shape.n (hit_of args.o.now.policy.shape) args.o.now.policy.shape.space flags turn.i)) turn.invariant.0 in
    (shown.1 ∙ turn.invariant.0, lays_next _ _ (omega arith) (shown.0 ∙ same) turn.invariant.1)

pub returns : goal.returns
returns c =
    let turn = c.loop-i in
    (lays_all _ c.requires.1 (omega arith) turn.invariant.1, turn.invariant.0)
