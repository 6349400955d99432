-- Decisions by their numbers: those from 3 on.
use mathlib.Core.Path.{◌≡◌, refl}
use mathlib.Core.Logic.{◌≢◌}
use Prim.Native.Nat.{ℕ, zero, suc}
use Rattle.printing.specs.Decisions.{decision_from}

pub no_other : (d : ℕ) → d ≢ 0 → d ≢ 1 → d ≢ 2 → decision_from d ≡ decision_from 3
no_other zero a b c = absurd (a refl)
no_other (suc zero) a b c = absurd (b refl)
no_other (suc (suc zero)) a b c = absurd (c refl)
no_other (suc (suc (suc d))) a b c = refl
