-- `text::alike` meets its contract. The loop keeps that the test passed at the places from i on.
use Prim.Native.Nat.{ℕ, ◌≤◌, ◌<◌}
use mathlib.Core.Bool.{true}
use lib.ListN.{length, get_or}
use Rattle.text.proofs.alike.Given as goal

abbrev pub invariant-loop-i : goal.invariant-loop-i
invariant-loop-i g l = (k : ℕ) → l.i ≤ k → k < length l.a → goal.F-post g l.test (get_or l.a k 0) (get_or l.b k 0) true
