-- `request_of`: the values from the place looked at on, with what is left of the number, weigh the number. Assumes nothing.
use Prim.Native.Nat.{ℕ, ◌≤◌, ◌<◌}
use mathlib.Core.Path.{◌≡◌}
use lib.ListN.{length, drop, get_or, replicate}
use Rattle.requests.proofs.Laws.{weighed}
use Rattle.requests.proofs.request_of.Given as goal

abbrev pub invariant-loop-i : goal.invariant-loop-i
invariant-loop-i l = (length l.values ≡ 6) × (weighed l.len l.i l.rest l.counts l.values ≡ l.number) × ((k : ℕ) → l.i ≤ k → k < l.len → get_or l.values k 0 < get_or l.counts k 0) × (drop l.len l.values ≡ drop l.len (replicate 6 0))
