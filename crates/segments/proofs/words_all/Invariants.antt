-- `words_all`: the words of the requests before m, and the block of the last of them. Assumes nothing.
use Prim.Native.Nat.{◌/◌, ◌%◌}
use mathlib.Core.Path.{◌≡◌}
use Rattle.outcomes.proofs.Laying.{Lays}
use Rattle.segments.specs.Across.{word_across}
use Rattle.segments.proofs.Columns.{Across}
use Rattle.segments.proofs.words_all.Given as goal

abbrev pub invariant-loop-m : goal.invariant-loop-m
invariant-loop-m l = ((l.m % 64 ≡ 0 → ⊥) → Across l.rows l.n l.block (l.m / 64)) × Lays (word_across l.rows l.n) l.space l.initial.words l.words l.m
