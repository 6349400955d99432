-- `put_values`: the lines of the requests so far. Assumes nothing.
use Prim.Native.Nat.{◌+◌}
use Rattle.printing.proofs.Walks.{Sofar}
use Rattle.value_pairs.specs.Lines.{pair_line}
use Rattle.value_pairs.proofs.Pairs.put_values.Given as goal

abbrev pub invariant-loop-k : goal.invariant-loop-k
invariant-loop-k l = Sofar (λ k. pair_line l.self.decided.now l.low l.high (l.first + k)) 500 0 l.initial.sink l.k l.sink
