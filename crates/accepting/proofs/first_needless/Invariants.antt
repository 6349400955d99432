-- `first_needless`: the topmost needless rule from the place looked at on is the topmost of all. Assumes nothing.
use mathlib.Core.Path.{◌≡◌}
use Prim.Native.Nat.{◌-◌}
use Rattle.meaning.specs.Text.{first_from}
use Rattle.table.specs.Shape.{hit_of}
use Rattle.trials.specs.Decided.{needless_at}
use Rattle.accepting.proofs.first_needless.Given as goal

abbrev pub invariant-loop-i : goal.invariant-loop-i
invariant-loop-i l =
    let p = l.o.policy in
    let test = needless_at p.file.now p.places.now p.table.now p.shape.n (hit_of p.shape) p.shape.space l.initial.struck in
    (l.struck ≡ l.initial.struck) × (first_from test 0 p.shape.n ≡ first_from test l.i (p.shape.n - l.i))
