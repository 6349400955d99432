-- `first_other`: no place passed tells two decisions. Assumes nothing.
use Prim.Native.Nat.{ℕ, ◌<◌}
use mathlib.Core.Path.{◌≡◌}
use Rattle.blocks.specs.Bits.{decision_bit}
use Rattle.outcomes.proofs.first_other.Given as goal

abbrev pub invariant-loop-v : goal.invariant-loop-v
invariant-loop-v l = (u : ℕ) → u < l.v → decision_bit l.given u ≡ decision_bit l.before u
