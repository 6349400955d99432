-- Sets of values by their numbers: each non-empty set has one number, each number below 2^n - 1 is that of one set.
use mathlib.Core.Path.{◌≡◌, refl, sym, ap, ap₂, ◌∙◌}
use mathlib.Core.Logic.{◌≢◌}
use Prim.Native.Nat.{ℕ, zero, suc, ◌+◌, ◌-◌, ◌*◌, ◌/◌, ◌%◌, ◌^◌, ◌≤◌, ◌<◌, zero-le, suc-le-suc}
use native.Mathlib.Nat.{pow-succ', add-mul, one-mul, mul_assoc, mul_comm, mul-div_cancel, zero-mul, div-one, mod-lt, mod_self, lt_of_le_of_lt}
use native.Mathlib.Numerals.{add-one}
use native.Mathlib.Omega.{arith}
use mathlib.Core.Bool.{true, false, not, ◌&&◌}
use mathlib.Core.List.{List, [], ◌∷◌, map, Memᴰ}
use lib.ListN.{length}
use lib.Dec.{eqb, ltb}
use lib.Bits.{bit_and, and_le_r, and_block, and_self, and_mask}
use lib.Pow.{pow_pos, pow_mono, pow-add, shr-shr}
use borrow.Author.Tests.{eqb-true, eqb-false, ltb-true, ltb-false}
use Rattle.meaning.specs.Text.{any, keep, counting}
use Rattle.meaning.specs.Deciding.{bit, members}
use Rattle.meaning.specs.Claims.Texts.{All, Rising, total}
use Rattle.meaning.specs.Claims.Sets.{set_number, SetOf, SetsNumbered}
use Rattle.laws.proofs.Bools.{Test, passed, failed, test, contradiction, and_true}
use Rattle.laws.proofs.Search.{counting_rising, counting_only, keep_has, keep_rising, keep_only, any_has, any_only}
use Rattle.laws.proofs.Bits.{bit_and_lem, bit_zero, bit_mod, bit_above}

-- the sum of 2 to the power of each
abbrev pub sum_of : List ℕ → ℕ
sum_of vs = total (map (λ v. 2 ^ v) vs)

-- The bits of a mask, from place i on, add up to what it has from there
pub bits_sum : (m i k : ℕ) → m / 2 ^ i < 2 ^ k → sum_of (keep (bit m) (counting i k)) ≡ m / 2 ^ i * 2 ^ i
bits_sum m i zero l = let none : m / 2 ^ i ≡ 0 = omega arith in rw none (sym (zero-mul (2 ^ i)))
bits_sum m i (suc k) l =
    let x = m / 2 ^ i in
    let half : m / 2 ^ suc i ≡ x / 2 = ap (λ e. m / 2 ^ e) (sym (add-one i)) ∙ sym (shr-shr m i 1) in
    let small : x / 2 < 2 ^ k = (let l' = rw (pow-succ' 2 k) at l in omega arith) in
    let later = bits_sum m (suc i) k (rw half small) in
    let weighed : m / 2 ^ suc i * 2 ^ suc i ≡ x / 2 * (2 * 2 ^ i) = rw (half, pow-succ' 2 i) in
    let whole : x % 2 * 2 ^ i + x / 2 * (2 * 2 ^ i) ≡ x * 2 ^ i = regroup x (2 ^ i) in
    go (test (bit m i)) (later ∙ weighed) whole
  where
    regroup : (x p : ℕ) → x % 2 * p + x / 2 * (2 * p) ≡ x * p
    regroup x p = let e : x % 2 + x / 2 * 2 ≡ x = omega arith in omega (arith, ap (λ y. y * p) e, add-mul (x % 2) (x / 2 * 2) p, mul_assoc (x / 2) 2 p)

    go : Test (bit m i) → sum_of (keep (bit m) (counting (suc i) k)) ≡ m / 2 ^ i / 2 * (2 * 2 ^ i) → m / 2 ^ i % 2 * 2 ^ i + m / 2 ^ i / 2 * (2 * 2 ^ i) ≡ m / 2 ^ i * 2 ^ i
        → sum_of (keep (bit m) (counting i (suc k))) ≡ m / 2 ^ i * 2 ^ i
    go (passed e) later whole = let odd : m / 2 ^ i % 2 ≡ 1 = eqb-true (m / 2 ^ i % 2) 1 e in rw e (omega (arith, later, whole, ap (λ y. y * 2 ^ i) odd, one-mul (2 ^ i)))
    go (failed e) later whole =
        let not-odd = eqb-false (m / 2 ^ i % 2) 1 e in
        let even : m / 2 ^ i % 2 ≡ 0 = omega arith in
        rw e (omega (arith, later, whole, ap (λ y. y * 2 ^ i) even, zero-mul (2 ^ i)))

pub members_sum : (v : ℕ) → v < 4095 → sum_of (members v) ≡ v + 1
members_sum v l =
    let whole : (v + 1) / 2 ^ 0 ≡ v + 1 = div-one (v + 1) in
    let small : (v + 1) / 2 ^ 0 < 2 ^ 12 = rw whole (omega arith) in
    bits_sum (v + 1) 0 12 small ∙ rw whole (omega arith)

pub members_rising : (v : ℕ) → Rising (members v)
members_rising v = keep_rising (bit (v + 1)) (counting 0 12) (counting_rising 0 12)

-- A rising list of values is known by its sum
all_of : (P : ℕ → Type 0) (vs : List ℕ) → ((v : ℕ) → Memᴰ v vs → P v) → All P vs
all_of P [] h = tt
all_of P (v ∷ vs) h = (h v (Memᴰ.head refl), all_of P vs (λ w m. h w (Memᴰ.tail m)))

above : (v : ℕ) (vs : List ℕ) → Rising (v ∷ vs) → All (λ w. suc v ≤ w) vs
above v vs r = all_of (λ w. suc v ≤ w) vs r.0

multiple : (b : ℕ) (vs : List ℕ) → All (λ v. b ≤ v) vs → (t : ℕ) × (sum_of vs ≡ 2 ^ b * t)
multiple b [] h = (0, omega arith)
multiple b (v ∷ vs) h =
    let (t, e) = multiple b vs h.1 in
    let low = h.0 in
    let split : 2 ^ v ≡ 2 ^ b * 2 ^ (v - b) = (let apart : v ≡ b + (v - b) = omega arith in ap (λ x. 2 ^ x) apart ∙ pow-add 2 b (v - b)) in
    (2 ^ (v - b) + t, joined (2 ^ b) (2 ^ (v - b)) t split e)
  where
    joined : (p a t : ℕ) → 2 ^ v ≡ p * a → sum_of vs ≡ p * t → 2 ^ v + sum_of vs ≡ p * (a + t)
    joined p a t x y = omega (arith, x, y, mul_comm p (a + t), add-mul a t p, mul_comm p a, mul_comm p t)

not_both : (v w : ℕ) (vs ws : List ℕ) → v < w → Rising (v ∷ vs) → Rising (w ∷ ws) → sum_of (v ∷ vs) ≡ sum_of (w ∷ ws) → ⊥
not_both v w vs ws l r s e =
    let (a, x) = multiple (suc v) vs (above v vs r) in
    let (b, y) = multiple (suc v) (w ∷ ws) (l, all_of (λ u. suc v ≤ u) ws (λ u m. omega (arith, s.0 u m))) in
    odd (2 ^ v) a b (pow_pos v) (rw (pow-succ' 2 v) at x) (rw (pow-succ' 2 v) at y) refl
  where
    odd : (p a b : ℕ) → 0 < p → sum_of vs ≡ 2 * p * a → sum_of (w ∷ ws) ≡ 2 * p * b → 2 ^ v ≡ p → ⊥
    odd p a b pos x y z =
        let left : (1 + 2 * a) * p ≡ p + 2 * p * a = omega (arith, add-mul 1 (2 * a) p, one-mul p, mul_assoc 2 a p, mul_comm a p, mul_assoc 2 p a) in
        let right : 2 * b * p ≡ 2 * p * b = omega (arith, mul_assoc 2 b p, mul_comm b p, mul_assoc 2 p b) in
        let both : (1 + 2 * a) * p ≡ 2 * b * p = omega (arith, left, right, e, x, y, z) in
        let apart : 1 + 2 * a ≡ 2 * b = sym (mul-div_cancel (1 + 2 * a) pos) ∙ ap (λ n. n / p) both ∙ mul-div_cancel (2 * b) pos in
        omega (arith, apart)

pub by_sum : (vs ws : List ℕ) → Rising vs → Rising ws → sum_of vs ≡ sum_of ws → vs ≡ ws
by_sum [] [] r s e = refl
by_sum [] (w ∷ ws) r s e = absurd (omega (arith, e, pow_pos w))
by_sum (v ∷ vs) [] r s e = absurd (omega (arith, e, pow_pos v))
by_sum (v ∷ vs) (w ∷ ws) r s e = go (test (ltb v w)) (test (ltb w v)) (by_sum vs ws r.1 s.1)
  where
    go : Test (ltb v w) → Test (ltb w v) → (sum_of vs ≡ sum_of ws → vs ≡ ws) → v ∷ vs ≡ w ∷ ws
    go (passed l) t later = absurd (not_both v w vs ws (ltb-true v w l) r s e)
    go (failed l) (passed t) later = absurd (not_both w v ws vs (ltb-true w v t) s r (sym e))
    go (failed l) (failed t) later =
        let x = ltb-false v w l in
        let y = ltb-false w v t in
        let same : v ≡ w = omega arith in
        let rest = later (let power : 2 ^ v ≡ 2 ^ w = ap (λ n. 2 ^ n) same in omega (arith, e, power)) in
        cc

-- Its sum, and one less, share all bits but the lowest: the sum of all values but the first
pub without_first : (v : ℕ) (vs : List ℕ) → Rising (v ∷ vs) → bit_and (sum_of (v ∷ vs)) (sum_of (v ∷ vs) - 1) ≡ sum_of vs
without_first v vs r =
    let (t, e) = multiple (suc v) vs (above v vs r) in
    let high : t * 2 ^ suc v ≡ sum_of vs = mul_comm t (2 ^ suc v) ∙ sym e in
    let whole : sum_of (v ∷ vs) ≡ t * 2 ^ suc v + 2 ^ v = omega (arith, high) in
    let less : sum_of (v ∷ vs) - 1 ≡ t * 2 ^ suc v + (2 ^ v - 1) = omega (arith, high, pow_pos v) in
    let twice = pow-succ' 2 v in
    ap₂ bit_and whole less
    ∙ and_block (suc v) t t (2 ^ v) (2 ^ v - 1) (omega (arith, twice, pow_pos v)) (omega (arith, twice, pow_pos v))
    ∙ ap₂ (λ x y. x * 2 ^ suc v + y) (and_self t) (and_mask (2 ^ v) v ∙ mod_self (2 ^ v))
    ∙ omega (arith, high)

-- its sum is below 2 to the power of every bound of its values
sum_below : (i n : ℕ) (vs : List ℕ) → i ≤ n → Rising vs → All (λ v. i ≤ v) vs → All (λ v. v < n) vs → sum_of vs + 2 ^ i ≤ 2 ^ n
sum_below i n [] l r low h = omega (arith, pow_mono l)
sum_below i n (v ∷ vs) l r low h =
    let later = sum_below (suc v) n vs h.0 r.1 (above v vs r) h.1 in
    omega (arith, later, pow-succ' 2 v, pow_mono low.0)

pub number_of_lem : (n : ℕ) (vs : List ℕ) → n ≤ 12 → SetOf n vs → (set_number vs < 2 ^ n - 1) × (members (set_number vs) ≡ vs)
number_of_lem n vs few s =
    let below = sum_below 0 n vs zero-le s.rising (all_of (λ v. 0 ≤ v) vs (λ v m. zero-le)) s.declared in
    let most : 2 ^ n ≤ 4096 = pow_mono few in
    let some-sum : 1 ≤ sum_of vs = filled vs s.some_value in
    (omega arith, by_sum (members (set_number vs)) vs (members_rising (set_number vs)) s.rising (members_sum (set_number vs) (omega arith) ∙ (let back : set_number vs + 1 ≡ sum_of vs = omega arith in back)))
  where
    filled : (vs : List ℕ) → 1 ≤ length vs → 1 ≤ sum_of vs
    filled [] l = absurd (omega arith)
    filled (v ∷ vs) l = omega (arith, pow_pos v)

pub set_of_lem : (n v : ℕ) → n ≤ 12 → v < 2 ^ n - 1 → SetOf n (members v) × (set_number (members v) ≡ v)
set_of_lem n v few l =
    let most : 2 ^ n ≤ 4096 = pow_mono few in
    let sum = members_sum v (omega arith) in
    (record { some_value = filled (members v) sum; rising = members_rising v; declared = all_of (λ w. w < n) (members v) below }, omega (arith, sum))
  where
    filled : (vs : List ℕ) → sum_of vs ≡ v + 1 → 1 ≤ length vs
    filled [] e = absurd (omega (arith, e))
    filled (w ∷ ws) e = suc-le-suc zero-le

    below : (w : ℕ) → Memᴰ w (members v) → w < n
    below w m = go (test (ltb w n))
      where
        go : Test (ltb w n) → w < n
        go (passed e) = ltb-true w n e
        go (failed e) = contradiction (keep_only (bit (v + 1)) w (counting 0 12) m).1 (bit_above (v + 1) n w (omega arith) (ltb-false w n e))

-- Whether a field shares a value with a set, by one operation on words
module _ (m v : ℕ) where
  abbrev low : ℕ
  low = (v + 1) % 2 ^ 12

  abbrev both : ℕ
  both = bit_and m low

  both_bits : (w : ℕ) → w < 12 → bit both w ≡ (bit m w && bit (v + 1) w)
  both_bits w l = bit_and_lem m low w ∙ ap (λ b. bit m w && b) (bit_mod (v + 1) 12 w l)

  first_shared : (ws : List ℕ) → keep (bit both) (counting 0 12) ≡ ws → both ≢ 0 → any (bit m) (members v) ≡ true
  first_shared [] e n =
      let whole : both / 2 ^ 0 ≡ both = div-one both in
      let small : both / 2 ^ 0 < 2 ^ 12 = rw whole (lt_of_le_of_lt (and_le_r m low) (mod-lt (v + 1) (pow_pos 12))) in
      let sum : sum_of (keep (bit both) (counting 0 12)) ≡ both = bits_sum both 0 12 small ∙ rw whole (omega arith) in
      absurd (n (sym sum ∙ ap sum_of e))
  first_shared (w ∷ ws) e n =
      let (counted, set) = keep_only (bit both) w (counting 0 12) (rw e (Memᴰ.head refl)) in
      let l = (counting_only 0 12 w counted).1 in
      let (own, other) = and_true (bit m w) (bit (v + 1) w) (sym (both_bits w l) ∙ set) in
      any_has (bit m) w (keep_has (bit (v + 1)) w counted other) own

  pub shares_and : any (bit m) (members v) ≡ not (eqb both 0)
  shares_and = go (test (eqb both 0)) (test (any (bit m) (members v)))
    where
      go : Test (eqb both 0) → Test (any (bit m) (members v)) → any (bit m) (members v) ≡ not (eqb both 0)
      go (passed e) (failed t) = rw (e, t)
      go (passed e) (passed t) =
          let (w, member, own) = any_only (bit m) (members v) t in
          let (counted, other) = keep_only (bit (v + 1)) w (counting 0 12) member in
          let set : bit both w ≡ true = both_bits w (counting_only 0 12 w counted).1 ∙ rw (own, other) in
          let none : bit both w ≡ false = ap (λ x. bit x w) (eqb-true both 0 e) ∙ bit_zero w in
          contradiction set none
      go (failed e) t = first_shared (keep (bit both) (counting 0 12)) refl (eqb-false both 0 e) ∙ rw e

pub sets_numbered : SetsNumbered
sets_numbered = record {
  number_of = number_of_lem;
  set_of = set_of_lem;
}
