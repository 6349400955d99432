use mathlib.Core.Path.{◌≡◌}
use lib.ListN.{length}
use Rattle.conflicts.specs.Pairs.{shown_by}
use Rattle.conflicts.proofs.PairSteps.{PairedTo}
use Rattle.conflicts.proofs.Rows.pair_later.Given as goal

abbrev pub invariant-loop-k : goal.invariant-loop-k
invariant-loop-k l = PairedTo l.parents (shown_by l.self.applied.now l.self.permits.now l.self.denies.now) l.n l.self.space l.initial.pairs l.j l.k l.pairs × (length l.pairs ≡ length l.initial.pairs)
