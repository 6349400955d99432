-- Whether a field shares a value with a set that has one value more.
use mathlib.Core.Path.{◌≡◌, refl, sym, ap, ◌∙◌}
use Prim.Native.Nat.{ℕ, suc, ◌+◌, ◌-◌, ◌/◌, ◌%◌, ◌^◌, ◌≤◌, ◌<◌}
use native.Mathlib.Nat.{one-mul, add-mod_left, mod-eq_of_lt, div-eq_of_lt-le, two-pow-succ}
use native.Mathlib.Omega.{arith}
use mathlib.Core.Bool.{Bool, true, false, ◌&&◌, and-false}
use mathlib.Core.List.{List, [], ◌∷◌}
use lib.Dec.{ltb}
use lib.Pow.{pow_mono}
use borrow.Author.Tests.{ltb-true, ltb-false, eq-eqb}
use Rattle.meaning.specs.Text.{any, keep, counting}
use Rattle.meaning.specs.Deciding.{bit, in_field}
use Rattle.laws.proofs.Bools.{Test, passed, failed, test}
use Rattle.laws.proofs.Search.{neither_lower, counting_has, keep_has, keep_none, any_has}
use Rattle.laws.proofs.Bits.{bit_zero, bit_mod, bit_above}

-- tests that differ only where another one fails keep alike what passes that
any_alike : (p q r : ℕ → Bool) (xs : List ℕ) → ((x : ℕ) → (q x && p x) ≡ (r x && p x)) → any p (keep q xs) ≡ any p (keep r xs)
any_alike p q r [] h = refl
any_alike p q r (x ∷ xs) h = go (test (q x)) (test (r x)) (any_alike p q r xs h)
  where
    go : Test (q x) → Test (r x) → any p (keep q xs) ≡ any p (keep r xs) → any p (keep q (x ∷ xs)) ≡ any p (keep r (x ∷ xs))
    go (passed a) (passed b) later = rw (a, b, later)
    go (passed a) (failed b) later = let none : p x ≡ false = rw (a, b) at (h x) in rw (a, b, none) later
    go (failed a) (passed b) later = let none : false ≡ p x = rw (a, b) at (h x) in rw (a, b, ← none) later
    go (failed a) (failed b) later = rw (a, b) later

-- a mask shares a value with the set whose mask is a
abbrev shares : ℕ → ℕ → Bool
shares mask a = any (bit mask) (keep (bit a) (counting 0 12))

shares_none : (mask : ℕ) → shares mask 0 ≡ false
shares_none mask = ap (any (bit mask)) (keep_none (bit 0) (counting 0 12) (λ w m. bit_zero w))

-- value k, and values below it
module _ (mask k j : ℕ) (below : j < 2 ^ k) where
  other_bit : bit mask k ≡ false → (w : ℕ) → (bit (2 ^ k + j) w && bit mask w) ≡ (bit j w && bit mask w)
  other_bit unset w = go (test (ltb w k)) (test (ltb k w))
    where
      go : Test (ltb w k) → Test (ltb k w) → (bit (2 ^ k + j) w && bit mask w) ≡ (bit j w && bit mask w)
      go (passed l) t =
          let rest : (2 ^ k + j) % 2 ^ k ≡ j = add-mod_left (2 ^ k) j ∙ mod-eq_of_lt below in
          ap (λ b. b && bit mask w) (sym (bit_mod (2 ^ k + j) k w (ltb-true w k l)) ∙ ap (λ x. bit x w) rest)
      go (failed l) (passed t) =
          let double = two-pow-succ k in
          let high = pow_mono {i = suc k} {j = w} (ltb-true k w t) in
          rw (bit_above (2 ^ k + j) w w (omega arith) (omega arith), bit_above j w w (omega arith) (omega arith))
      go (failed l) (failed t) =
          let same : w ≡ k = neither_lower w k (λ x. omega (arith, ltb-false w k l)) (λ x. omega (arith, ltb-false k w t)) in
          rw (same, unset, and-false, and-false)

  pub without_value : bit mask k ≡ false → shares mask (2 ^ k + j) ≡ shares mask j
  without_value unset = any_alike (bit mask) (bit (2 ^ k + j)) (bit j) (counting 0 12) (other_bit unset)

  pub with_value : k < 12 → bit mask k ≡ true → shares mask (2 ^ k + j) ≡ true
  with_value l set =
      let double = two-pow-succ k in
      let one : (2 ^ k + j) / 2 ^ k ≡ 1 = div-eq_of_lt-le (2 ^ k) (omega (arith, one-mul (2 ^ k))) (omega arith) in
      let own : bit (2 ^ k + j) k ≡ true = eq-eqb ((2 ^ k + j) / 2 ^ k % 2) 1 (ap (λ x. x % 2) one) in
      any_has (bit mask) k (keep_has (bit (2 ^ k + j)) k (counting_has 0 12 k (omega arith) (omega arith)) own) set

-- The same by set numbers: sets from 2^k - 1 to 2^(k + 1) - 2 have value k and no higher one
pub set_with : (mask v k : ℕ) → k < 12 → 2 ^ k ≤ v + 1 → v + 1 < 2 ^ k + 2 ^ k → bit mask k ≡ true → in_field true mask v ≡ true
set_with mask v k l low high set =
    let j = v + 1 - 2 ^ k in
    let apart : v + 1 ≡ 2 ^ k + j = omega arith in
    ap (shares mask) apart ∙ with_value mask k j (omega arith) l set

pub set_alone : (mask v k : ℕ) → v + 1 ≡ 2 ^ k → bit mask k ≡ false → in_field true mask v ≡ false
set_alone mask v k e unset =
    let apart : v + 1 ≡ 2 ^ k + 0 = omega arith in
    ap (shares mask) apart ∙ without_value mask k 0 (omega arith) unset ∙ shares_none mask

pub set_without : (mask u v k : ℕ) → v ≡ 2 ^ k + u → u + 1 < 2 ^ k → bit mask k ≡ false → in_field true mask v ≡ in_field true mask u
set_without mask u v k e l unset =
    let apart : v + 1 ≡ 2 ^ k + (u + 1) = omega arith in
    ap (shares mask) apart ∙ without_value mask k (u + 1) l unset
