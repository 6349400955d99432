-- `column`: the words of the first i elements. Assumes nothing.
use mathlib.Core.Path.{◌≡◌}
use native.Mathlib.Omega.{arith}
use Rattle.segments.proofs.Columns.{columned_none, columned_next}
use Rattle.segments.proofs.column.Goals as goal

pub loop-i-init : goal.loop-i-init
loop-i-init c = columned_none _ _

pub loop-i-preserved : goal.loop-i-preserved
loop-i-preserved c = let turn = c.loop-i in columned_next _ _ turn.words turn.i (omega arith) turn.invariant

pub returns : goal.returns
returns c = let turn = c.loop-i in let all : turn.i ≡ c.args.n = omega arith in rw all at turn.invariant.column
