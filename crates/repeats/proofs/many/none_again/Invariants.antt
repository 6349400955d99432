-- `repeats::many::none_again` meets its contract. The loop keeps that no field passed stands twice, and that the suspects passed have marks.
use Prim.Native.Nat.{◌≤◌}
use mathlib.Core.Path.{◌≡◌}
use mathlib.Core.Bool.{false}
use mathlib.Core.List.{[]}
use lib.ListN.{length}
use Rattle.meaning.specs.Text.{repeated}
use Rattle.repeats.specs.Marks.{marked, first_at, others_at, Kept}
use Rattle.repeats.proofs.many.none_again.Given as goal

abbrev pub invariant-loop-passed : goal.invariant-loop-passed
invariant-loop-passed l = (l.end ≤ length l.fields) × (first_at l.fields l.end ≡ []) × Kept (marked l.suspects.words) l.passed.words (others_at l.fields l.end) × (repeated (others_at l.fields l.end) ≡ false)

abbrev pub decreases-loop-passed : goal.decreases-loop-passed
decreases-loop-passed l = l.end
