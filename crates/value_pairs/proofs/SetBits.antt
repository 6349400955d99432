-- The later value's bit of a set of two: what is left of its mask without the lowest bit, if that is one bit.
use mathlib.Core.Path.{◌≡◌, refl, sym, ap, ◌∙◌}
use mathlib.Core.Logic.{◌≢◌}
use Prim.Native.Nat.{ℕ, ◌+◌, ◌-◌, ◌^◌, ◌≤◌, ◌<◌}
use native.Mathlib.Nat.{add-zero}
use native.Mathlib.Omega.{arith}
use mathlib.Core.List.{List, [], ◌∷◌}
use lib.Bits.{bit_and}
use lib.Pow.{pow_pos}
use Rattle.std.specs.Prelude.{Option, Some, None}
use Rattle.meaning.specs.Deciding.{members}
use Rattle.meaning.specs.Claims.Texts.{Rising}
use Rattle.laws.proofs.Sets.{sum_of, members_sum, members_rising, without_first}
use Rattle.value_pairs.specs.Lines.{later_bit}

-- a rising list by its sum: no value, one, two, or more
module _ (set later : ℕ) (is : later ≡ bit_and set (set - 1)) where
  rest_is : (v : ℕ) (vs : List ℕ) → Rising (v ∷ vs) → sum_of (v ∷ vs) ≡ set → later ≡ sum_of vs
  rest_is v vs r sum = is ∙ ap (λ x. bit_and x (x - 1)) (sym sum) ∙ without_first v vs r

  last_is : (v w : ℕ) (vs : List ℕ) → Rising (v ∷ w ∷ vs) → sum_of (v ∷ w ∷ vs) ≡ set → bit_and later (later - 1) ≡ sum_of vs
  last_is v w vs r sum = ap (λ x. bit_and x (x - 1)) (rest_is v (w ∷ vs) r sum) ∙ without_first w vs r.1

  one_value : (vs : List ℕ) → Rising vs → sum_of vs ≡ set → later ≡ 0 → None ≡ later_bit vs
  one_value [] r sum none = refl
  one_value (v ∷ []) r sum none = refl
  one_value (v ∷ w ∷ vs) r sum none = let rest = rest_is v (w ∷ vs) r sum in absurd (omega (arith, rest, none, pow_pos w))

  more_values : (vs : List ℕ) → Rising vs → sum_of vs ≡ set → bit_and later (later - 1) ≢ 0 → None ≡ later_bit vs
  more_values [] r sum some = refl
  more_values (v ∷ []) r sum some = refl
  more_values (v ∷ w ∷ []) r sum some = absurd (some (last_is v w [] r sum))
  more_values (v ∷ w ∷ x ∷ vs) r sum some = refl

  two_values : (vs : List ℕ) → Rising vs → sum_of vs ≡ set → later ≢ 0 → bit_and later (later - 1) ≡ 0 → Some later ≡ later_bit vs
  two_values [] r sum some none = absurd (some (is ∙ ap (λ x. bit_and x (x - 1)) (sym sum)))
  two_values (v ∷ []) r sum some none = absurd (some (rest_is v [] r sum))
  two_values (v ∷ w ∷ []) r sum some none = ap Some (rest_is v (w ∷ []) r sum ∙ add-zero (2 ^ w))
  two_values (v ∷ w ∷ x ∷ vs) r sum some none = let last = last_is v w (x ∷ vs) r sum in absurd (omega (arith, last, none, pow_pos x))

-- of the set that has this mask
module _ (set later : ℕ) (is : later ≡ bit_and set (set - 1)) (some : 1 ≤ set) (few : set ≤ 4095) where
  sum : sum_of (members (set - 1)) ≡ set
  sum = members_sum (set - 1) (omega arith) ∙ omega arith

  pub none_later : later ≡ 0 → None ≡ later_bit (members (set - 1))
  none_later = one_value set later is (members (set - 1)) (members_rising (set - 1)) sum

  pub several_later : bit_and later (later - 1) ≢ 0 → None ≡ later_bit (members (set - 1))
  several_later = more_values set later is (members (set - 1)) (members_rising (set - 1)) sum

  pub one_later : later ≢ 0 → bit_and later (later - 1) ≡ 0 → Some later ≡ later_bit (members (set - 1))
  one_later = two_values set later is (members (set - 1)) (members_rising (set - 1)) sum

-- the set that has mask s + 1 is set s
pub this_set : (s : ℕ) {high : Option ℕ} → high ≡ later_bit (members (s + 1 - 1)) → high ≡ later_bit (members s)
this_set s e = let same : s + 1 - 1 ≡ s = omega arith in e ∙ ap (λ k. later_bit (members k)) same

-- two values: each alone has a lower number than both
pub bits_below : (s high : ℕ) → s < 4095 → Some high ≡ later_bit (members s) → (high ≤ s) × (s + 1 - high ≤ s)
bits_below s high few is = go (members s) (members_sum s few) is
  where
    go : (vs : List ℕ) → sum_of vs ≡ s + 1 → Some high ≡ later_bit vs → (high ≤ s) × (s + 1 - high ≤ s)
    go [] sum is = cc
    go (v ∷ []) sum is = cc
    go (v ∷ w ∷ []) sum is = let bit : high ≡ 2 ^ w = cc in (omega (arith, sum, bit, pow_pos v), omega (arith, sum, bit, pow_pos w))
    go (v ∷ w ∷ x ∷ vs) sum is = cc
