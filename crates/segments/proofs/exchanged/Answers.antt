-- `exchanged`: the first k words. Assumes nothing.
use native.Mathlib.Omega.{arith}
use Rattle.segments.proofs.Turning.{exchanges_none, exchanges_next}
use borrow.Author.Rules.{rules}
use Rattle.segments.proofs.exchanged.Goals as goal

pub loop-k-init : goal.loop-k-init
loop-k-init c = exchanges_none _ _

pub loop-k-preserved : goal.loop-k-preserved
loop-k-preserved c = let turn = c.loop-k in exchanges_next _ _ turn.to turn.k _ (omega arith) c.exchange.ensures (search rules) turn.invariant

pub returns : goal.returns
returns c = λ k l. c.loop-k.invariant.done k (omega arith)
