use mathlib.Core.Path.{◌≡◌}
use Prim.Native.Nat.{ℕ, ◌<◌}
use lib.ListN.{length}
use Rattle.conflicts.specs.Pairs.{shown_by, PairsOf, OthersStay}
use Rattle.conflicts.proofs.Rows.pair_all.Given as goal

abbrev pub invariant-loop-j : goal.invariant-loop-j
invariant-loop-j l = ((i : ℕ) → i < l.j → PairsOf l.parents (shown_by l.self.applied.now l.self.permits.now l.self.denies.now) l.n l.self.space l.pairs i) × (length l.pairs ≡ length l.initial.pairs) × OthersStay l.parents l.n l.initial.pairs l.pairs
