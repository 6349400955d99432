-- `Request::next`: the values passed are the step's, and what they carry on is carried. Assumes nothing.
use Prim.Native.Nat.{ℕ, ◌≤◌, ◌<◌}
use mathlib.Core.Path.{◌≡◌}
use lib.ListN.{length, drop, get_or}
use Rattle.requests.proofs.Laws.{Below}
use Rattle.requests.proofs.Steps.{Carried}
use Rattle.requests.proofs.Request.next.Given as goal

abbrev pub invariant-loop-i : goal.invariant-loop-i
invariant-loop-i l = (length l.values ≡ 6) × (l.carry ≤ 1) × Below l.len l.counts l.values × Carried l.len l.i l.carry l.counts l.values l.initial.values × (drop l.len l.values ≡ drop l.len l.initial.values) × ((k : ℕ) → k < l.len → get_or l.counts k 0 ≤ 4096)
