-- `exchanged`: the first k words. Assumes nothing.
use Rattle.segments.proofs.Turning.{Exchanges}
use Rattle.segments.proofs.exchanged.Given as goal

abbrev pub invariant-loop-k : goal.invariant-loop-k
invariant-loop-k l = Exchanges l.s l.words l.to l.k
