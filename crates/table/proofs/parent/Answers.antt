-- `parent`: the places passed are not one less deep. Assumes nothing.
use Prim.Native.Nat.{◌+◌, ◌-◌}
use mathlib.Core.Path.{◌≡◌, sym, ap, ◌∙◌}
use mathlib.Core.Option.{none}
use native.Mathlib.Omega.{arith}
use Rattle.laws.specs.Found.{found}
use Rattle.table.specs.Rows.{depth_of}
use Rattle.table.specs.Tree.{parent_of}
use Rattle.table.proofs.Above.{nearest, nearest_here}
use Rattle.table.proofs.parent.Goals as goal

pub returns-then-depth_at-depth-clause-value : goal.returns-then-depth_at-depth-clause-value
unfolding parent_of
returns-then-depth_at-depth-clause-value c =
    let table = c.args.table.now in
    let turn = c.loop-j in
    let here : depth_of table (turn.j - 1) + 1 ≡ c.depth_at-depth.result = rw (← c.depth_at.ensures.0) c.if-depth_at-depth.true in
    rw (← c.depth_at-depth.ensures.0) (sym (ap found (turn.invariant ∙ nearest_here table _ turn.j (omega arith) here)))

pub returns-clause-value : goal.returns-clause-value
unfolding parent_of
returns-clause-value c =
    let none_left : c.loop-j.j ≡ 0 = omega arith in
    let not_found : nearest c.args.table.now c.depth_at-depth.result c.loop-j.j ≡ none = rw none_left in
    rw (← c.depth_at-depth.ensures.0) (sym (ap found (c.loop-j.invariant ∙ not_found)))
