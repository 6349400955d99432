-- `any_obligations`: no element from i on has one.
use mathlib.Core.Path.{◌≡◌}
use Rattle.obligations.specs.Given.{any_obliged}
use Rattle.obligations.proofs.any_obligations.Given as goal

abbrev pub invariant-loop-i : goal.invariant-loop-i
invariant-loop-i l = any_obliged l.places l.n ≡ any_obliged l.places l.i
