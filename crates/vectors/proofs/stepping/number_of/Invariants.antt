use Prim.Native.Nat.{◌<◌}
use Rattle.vectors.proofs.stepping.number_of.Given as goal

abbrev pub invariant-loop-b : goal.invariant-loop-b
invariant-loop-b l = l.number < 65536
