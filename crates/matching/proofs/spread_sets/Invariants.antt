-- `spread_sets`: the sets of the values looked at are right, and the plane stands once for each of them and once more. Assumes nothing.
use Prim.Native.Nat.{ℕ, ◌-◌}
use mathlib.Core.Path.{◌≡◌}
use lib.ListN.{length}
use Rattle.matching.proofs.Doubling.{Doubles}
use Rattle.matching.proofs.spread_sets.Given as goal

abbrev pub invariant-loop-copies : goal.invariant-loop-copies
invariant-loop-copies l = (length l.sets ≡ 64) × (length l.all ≡ 64) × ((k : ℕ) × Doubles l.plane l.size l.mask l.count l.sets l.all l.rest l.copies k)

abbrev pub decreases-loop-copies : goal.decreases-loop-copies
decreases-loop-copies l = l.count - l.copies
