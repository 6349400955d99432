-- `first_alike`: the search along the chain of the word's bucket finds the first request that has the word. Assumes nothing.
use Prim.Native.Nat.{◌-◌}
use mathlib.Core.Path.{sym, ap}
use native.Mathlib.Omega.{arith}
use borrow.Author.Tests.{eq-eqb, ne_eqb}
use Rattle.laws.specs.Found.{found}
use Rattle.segments.proofs.Chains.{search_from, search_none, search_some, search_on, head_links, next_links}
use Rattle.segments.proofs.first_alike.Goals as goal

pub loop-next-init : goal.loop-next-init
loop-next-init c = search_from (head_links c.requires.0 _ c.bucket-head.ensures)

pub returns-then-words-k : goal.returns-then-words-k
returns-then-words-k c =
    let turn = c.loop-next in
    let first = search_some turn.invariant (turn.next - 1) (omega arith) (eq-eqb _ _ c.if-words-k.true) in
    sym (ap found first)

pub loop-next-smaller : goal.loop-next-smaller
loop-next-smaller c = omega (arith, (next_links c.requires.0 c.loop-next.invariant (omega arith)).most)

pub loop-next-preserved : goal.loop-next-preserved
loop-next-preserved c =
    let turn = c.loop-next in
    search_on turn.invariant (turn.next - 1) (omega arith) (ne_eqb _ _ c.if-words-k.false) (next_links c.requires.0 turn.invariant (omega arith))

pub returns : goal.returns
returns c = sym (ap found (search_none c.loop-next.invariant (omega arith)))
