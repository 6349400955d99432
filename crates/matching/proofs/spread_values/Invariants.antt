-- `spread_values`: the first v values are looked at, and no bit behind their requests is set. Assumes nothing.
use Rattle.matching.proofs.Spreading.{Spreads}
use Rattle.matching.proofs.spread_values.Given as goal

abbrev pub invariant-loop-v : goal.invariant-loop-v
invariant-loop-v l = Spreads l.plane l.size l.mask l.to l.rest l.at l._v
