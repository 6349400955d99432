-- `next_child`: no place passed is a child, nor ends the children. Assumes nothing.
use mathlib.Core.Path.{◌≡◌}
use Rattle.table.specs.Tree.{next_child}
use Rattle.table.proofs.next_child.Given as goal

abbrev pub invariant-loop-at : goal.invariant-loop-at
invariant-loop-at l = next_child l.table l.struck l.n l.depth l.from ≡ next_child l.table l.struck l.n l.depth l.at
