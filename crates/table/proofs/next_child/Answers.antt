-- `next_child`: no place passed is a child, nor ends the children. Assumes nothing.
use mathlib.Core.Path.{sym, ap, ◌∙◌}
use native.Mathlib.Omega.{arith}
use borrow.Author.Rules.{rules}
use Rattle.laws.specs.Found.{found}
use Rattle.table.proofs.Children.{passes_struck, passes_deeper, child_here, child_behind, child_none}
use Rattle.table.proofs.next_child.Goals as goal
use Rattle.table.proofs.next_child.Goals.{then-live+else-d-depth+else-d-depth-2, else-live}

pub returns-then-d-depth-clause-value : goal.returns-then-d-depth-clause-value
returns-then-d-depth-clause-value c = sym (ap found (c.loop-at.invariant ∙ child_behind _ _ _ _ _ (omega arith) (search rules) (omega (arith, c.depth_at-d.ensures.0))))

pub returns-then-d-depth-2-clause-value : goal.returns-then-d-depth-2-clause-value
returns-then-d-depth-2-clause-value c = sym (ap found (c.loop-at.invariant ∙ child_here _ _ _ _ _ (omega arith) (search rules) (omega (arith, c.depth_at-d.ensures.0))))

pub loop-at-preserved : goal.loop-at-preserved
loop-at-preserved c =
    elim c.if-live.branch [
      | then-live+else-d-depth+else-d-depth-2 w ↦ c.loop-at.invariant ∙ passes_deeper _ _ _ _ _ (omega arith) (omega (arith, w.depth_at-d.ensures.0))
      | else-live w ↦ c.loop-at.invariant ∙ passes_struck _ _ _ _ _ (omega arith) (search rules)
    ]

pub returns-clause-value : goal.returns-clause-value
returns-clause-value c = sym (ap found (c.loop-at.invariant ∙ child_none _ _ _ _ _ (omega arith)))
