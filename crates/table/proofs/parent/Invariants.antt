-- `parent`: the places passed are not one less deep. Assumes nothing.
use mathlib.Core.Path.{◌≡◌}
use Rattle.table.proofs.Above.{nearest}
use Rattle.table.proofs.parent.Given as goal

abbrev pub invariant-loop-j : goal.invariant-loop-j
invariant-loop-j l = nearest l.table l.depth l.i ≡ nearest l.table l.depth l.j
