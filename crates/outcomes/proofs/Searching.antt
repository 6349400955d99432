-- Searches: a step at a time, and by tests that agree.
use Prim.Native.Nat.{ℕ, zero, suc, ◌+◌, ◌≤◌, ◌<◌}
use mathlib.Core.Path.{◌≡◌, refl}
use mathlib.Core.Bool.{Bool}
use native.Mathlib.Omega.{arith}
use lib.Dec.{eqb}
use borrow.Author.Tests.{eqb-true, eqb-false}
use Rattle.meaning.specs.Text.{first_from}
use Rattle.laws.proofs.Bools.{Test, passed, failed, test}

-- what holds of all below v, and of v
pub up_to : (P : ℕ → Type 0) (v : ℕ) → ((u : ℕ) → u < v → P u) → P v → (u : ℕ) → u < v + 1 → P u
up_to P v below here u l = go (test (eqb u v))
  where
    go : Test (eqb u v) → P u
    go (passed e) = rw (eqb-true u v e) here
    go (failed e) = let other : (u ≡ v → ⊥) = eqb-false u v e in below u (omega arith)

-- tests that agree on the numbers searched find the same
pub first_alike : (p q : ℕ → Bool) (m k : ℕ) → ((r : ℕ) → m ≤ r → r < m + k → p r ≡ q r) → first_from p m k ≡ first_from q m k
first_alike p q m zero h = refl
first_alike p q m (suc k) h = rw (h m (omega arith) (omega arith), first_alike p q (suc m) k (λ r low high. h r (omega arith) (omega arith)))
