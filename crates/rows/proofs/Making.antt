-- How large a word of tests is.
use Prim.Native.Nat.{ℕ, zero, suc, ◌+◌, ◌*◌, ◌^◌, ◌<◌}
use mathlib.Core.Path.{◌≡◌, sym, ◌∙◌}
use mathlib.Core.Bool.{Bool, true, false, cond}
use native.Mathlib.Nat.{pow-succ'}
use native.Mathlib.Omega.{arith}
use lib.Dec.{eqb}
use borrow.Author.Tests.{eqb-true, eqb-false, eq-eqb, ne_eqb}
use Rattle.laws.proofs.Bools.{Test, passed, failed, test}
use Rattle.rows.specs.Words.{word_from}

-- two numbers compared either way round
pub eqb_swap : (a b : ℕ) → eqb a b ≡ eqb b a
eqb_swap a b = go (test (eqb a b))
  where
    go : Test (eqb a b) → eqb a b ≡ eqb b a
    go (passed e) = e ∙ sym (eq-eqb b a (sym (eqb-true a b e)))
    go (failed e) = e ∙ sym (ne_eqb b a (λ same. eqb-false a b e (sym same)))

-- one bit more doubles the bound
bit_small : (b : Bool) (word k : ℕ) → word < 2 ^ k → cond b 1 0 + 2 * word < 2 ^ suc k
bit_small true word k h = rw (pow-succ' 2 k) (omega arith)
bit_small false word k h = rw (pow-succ' 2 k) (omega arith)

module _ (test : ℕ → Bool) where
  pub word_small : (i k : ℕ) → word_from test i k < 2 ^ k
  unfolding word_from
  word_small i zero = omega arith
  word_small i (suc k) = bit_small (test i) (word_from test (suc i) k) k (word_small (suc i) k)
