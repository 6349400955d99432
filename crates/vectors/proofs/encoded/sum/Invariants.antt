use Prim.Native.Nat.{◌<◌}
use Rattle.vectors.proofs.encoded.sum.Given as goal

abbrev pub invariant-loop-b : goal.invariant-loop-b
invariant-loop-b l = l.total < 4294967291
