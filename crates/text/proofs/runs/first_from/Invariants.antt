-- `text::runs::first_from` meets its contract. The loops keep that the test found none of the bytes passed.
use Prim.Native.Nat.{ℕ, ◌+◌, ◌-◌, ◌≤◌, ◌<◌}
use mathlib.Core.Bool.{false}
use lib.ListN.{length, get_or}
use Rattle.text.proofs.runs.first_from.Given as goal

abbrev pub invariant-loop-i : goal.invariant-loop-i
invariant-loop-i g l = (l.at ≤ l.i) × (l.i ≤ length l.s) × ((k : ℕ) → l.at ≤ k → k < l.i → goal.F-post g l.test (get_or l.s k 0) false)

abbrev pub decreases-loop-i : goal.decreases-loop-i
decreases-loop-i g l = length l.s - l.i

abbrev pub invariant-loop-k : goal.invariant-loop-k
invariant-loop-k g l = (l.at ≤ l.i) × (l.i + 4 ≤ length l.s) × (l.k ≤ 4) × ((k : ℕ) → l.at ≤ k → k < l.i + l.k → goal.F-post g l.test (get_or l.s k 0) false)

abbrev pub invariant-loop-k-2 : goal.invariant-loop-k-2
invariant-loop-k-2 g l = (l.at ≤ l.k) × ((k : ℕ) → l.at ≤ k → k < l.k → goal.F-post g l.test (get_or l.s k 0) false)
