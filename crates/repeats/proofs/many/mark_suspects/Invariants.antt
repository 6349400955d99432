-- `repeats::many::mark_suspects` meets its contract. The loop keeps that the fields passed have marks, and those of them that stand again behind are suspects.
use Prim.Native.Nat.{◌≤◌}
use mathlib.Core.Path.{◌≡◌}
use mathlib.Core.Bool.{true}
use mathlib.Core.List.{[]}
use lib.ListN.{length}
use Rattle.repeats.specs.Marks.{first_at, others_at, Kept, Caught}
use Rattle.repeats.proofs.many.mark_suspects.Given as goal

abbrev pub invariant-loop-passed : goal.invariant-loop-passed
invariant-loop-passed l = (l.end ≤ length l.fields) × (first_at l.fields l.end ≡ []) × Kept (λ k. true) l.passed.words (others_at l.fields l.end) × Caught l.suspects.words (others_at l.fields l.end)

abbrev pub decreases-loop-passed : goal.decreases-loop-passed
decreases-loop-passed l = l.end
