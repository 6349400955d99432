-- `parent_all`: the parents, laid down one after the other. Assumes nothing.
use Rattle.laws.specs.Found.{found}
use Rattle.table.specs.Tree.{parent_of}
use Rattle.outcomes.proofs.Laying.{Lays}
use Rattle.rows.proofs.parent_all.Given as goal

abbrev pub invariant-loop-child : goal.invariant-loop-child
invariant-loop-child l = Lays (λ k. found (parent_of l.table k)) l.n l.initial.parents l.parents l.child
