-- `apply_all`: the rows of the first i elements. Assumes nothing.
use Prim.Native.Nat.{◌+◌, ◌/◌}
use mathlib.Core.Path.{◌≡◌, refl}
use native.Mathlib.Omega.{arith}
use lib.ListN.{length, length-set}
use Rattle.matching.proofs.Copying.{copied_is}
use Rattle.rows.proofs.Rows.{filled_none, filled_row, applied_all, applied_rest}
use borrow.Author.Rules.{rules}
use Rattle.rows.proofs.apply_all.Goals as goal

pub loop-i-init : goal.loop-i-init
loop-i-init c = (omega (arith, c.requires.0.small), filled_none _ _ _ _ _ _)

pub row_of-row-requires : goal.row_of-row-requires
row_of-row-requires c = let turn = c.loop-i in (record { rows = c.requires.0.rows; few = c.requires.0.few; words = omega (arith, c.requires.0.few, c.requires.0.room); most = turn.invariant.0 }, search rules)

pub loop-i-preserved : goal.loop-i-preserved
loop-i-preserved c =
    let turn = c.loop-i in
    let made = c.row_of-row in
    let put = c.copy_plane in
    let wide : length made.result ≡ 64 = search rules in
    let copied = copied_is made.result ((c.args.shape.space + 63) / 64) turn.i turn.applied put.new.row put.ensures (omega (arith, c.requires.0.few, turn.invariant.1.size)) (omega (arith, turn.invariant.0)) in
    (turn.invariant.0, filled_row _ _ _ _ _ turn.invariant.1 turn.invariant.0 made.result _ refl (length-set turn.applied turn.i put.new.row) made.ensures copied)

pub returns : goal.returns
returns c =
    let turn = c.loop-i in
    (applied_all _ _ _ c.requires.0 (omega arith) turn.invariant.1, applied_rest _ _ _ c.requires.0 (omega arith) (omega arith) turn.invariant.1)
