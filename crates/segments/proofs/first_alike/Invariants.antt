-- `first_alike`: the search along the chain of the word's bucket finds the first request that has the word. Assumes nothing.
use Rattle.segments.proofs.Chains.{Searching}
use Rattle.segments.proofs.first_alike.Given as goal

abbrev pub invariant-loop-next : goal.invariant-loop-next
invariant-loop-next l = Searching l.words l.m l.next

abbrev pub decreases-loop-next : goal.decreases-loop-next
decreases-loop-next l = l.next
