-- `well_placed` meets its contract: a law for each answer.
use mathlib.Core.Path.{sym, ap, ◌∙◌}
use native.Mathlib.Omega.{arith}
use borrow.Author.Rules.{rules}
use Rattle.layout.proofs.Placing.{held_by, first_deep, first_top, later_top, later_deep, later_jump, later_held}
use Rattle.layout.proofs.growing.well_placed.Goals as goal

pub returns-then-depth-ne0 : goal.returns-then-depth-ne0
returns-then-depth-ne0 c before s =
    let a = c.args in
    first_deep a.tree a.kind a.depth before c.if-tree-eq0.true c.if-depth-ne0.true s

pub returns-then-tree-eq0 : goal.returns-then-tree-eq0
returns-then-tree-eq0 c before s =
    let a = c.args in
    (search rules) ∙ first_top a.tree a.kind a.depth before c.if-tree-eq0.true c.if-depth-ne0.false s

pub returns-then-depth-eq0 : goal.returns-then-depth-eq0
returns-then-depth-eq0 c before s =
    let a = c.args in
    later_top a.tree a.kind c.if-tree-eq0.false a.depth before c.if-depth-eq0.true s

pub returns-then-depth-gt7 : goal.returns-then-depth-gt7
returns-then-depth-gt7 c before s =
    let a = c.args in
    later_deep a.tree a.kind c.if-tree-eq0.false a.depth before s c.if-depth-gt7.true

pub returns-then-tree-depth : goal.returns-then-tree-depth
returns-then-tree-depth c before s =
    let a = c.args in
    later_jump a.tree a.kind c.if-tree-eq0.false a.depth before s c.if-tree-depth.true

pub returns-in-Some : goal.returns-in-Some
returns-in-Some c before s =
    let a = c.args in
    c.may_hold.ensures ∙ ap (λ o. held_by o a.kind) (sym c.in-Some.is) ∙ later_held a.tree a.kind c.if-tree-eq0.false a.depth before s (omega arith) (omega arith) (omega arith)

pub returns-in-None : goal.returns-in-None
returns-in-None c before s =
    let a = c.args in
    ap (λ o. held_by o a.kind) (sym c.in-None.is) ∙ later_held a.tree a.kind c.if-tree-eq0.false a.depth before s (omega arith) (omega arith) (omega arith)
