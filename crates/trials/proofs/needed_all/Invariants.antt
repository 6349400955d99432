-- `needed_all`: the requests shown, laid down one after the other under flags that stay. Assumes nothing.
use mathlib.Core.Path.{◌≡◌}
use Rattle.laws.specs.Found.{found}
use Rattle.table.specs.Shape.{hit_of}
use Rattle.outcomes.proofs.Laying.{Lays}
use Rattle.trials.specs.Decided.{shown_at}
use Rattle.trials.proofs.needed_all.Given as goal

abbrev pub invariant-loop-i : goal.invariant-loop-i
invariant-loop-i l =
    let p = l.o.policy in
    (l.struck ≡ l.initial.struck) × Lays (λ i. found (shown_at p.file.now p.places.now p.table.now p.shape.n (hit_of p.shape) p.shape.space l.initial.struck i)) p.shape.n l.initial.shown l.shown l.i
