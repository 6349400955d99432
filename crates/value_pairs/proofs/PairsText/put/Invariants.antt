-- `put`: the lines of the runs so far. Assumes nothing.
use Prim.Native.Nat.{◌*◌}
use Rattle.printing.proofs.Walks.{Sofar}
use Rattle.value_pairs.specs.Lines.{run_lines}
use Rattle.value_pairs.proofs.PairsText.put.Given as goal

abbrev pub invariant-loop-run : goal.invariant-loop-run
invariant-loop-run l = Sofar (run_lines l.self.decided.now l.self.size l.self.behind) (500 * l.self.behind) 0 l.initial.sink l.run l.sink
