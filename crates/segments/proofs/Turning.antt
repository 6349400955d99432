-- Words turned round: digit s of the words' numbers exchanged with that of the bits' numbers, for each of six digits.
use Prim.Native.Nat.{ℕ, zero, suc, ◌+◌, ◌-◌, ◌*◌, ◌/◌, ◌%◌, ◌^◌, ◌≤◌, ◌<◌, zero-le}
use mathlib.Core.Path.{◌≡◌, refl, sym, ap, ap₂, ◌∙◌}
use mathlib.Core.Bool.{Bool, true, false, not, ◌&&◌, ◌||◌, and-true, and-false, or-false}
use mathlib.Core.List.{List}
use mathlib.Core.Option.{none}
use native.Mathlib.Omega.{arith}
use lib.Bits.{bit_and, bit_or, bit_xor}
use lib.Dec.{eqb, leb, ltb}
use lib.ListN.{length, get_or, set, length-set, replicate, length-replicate}
use lib.Seq.{get_or-set_same, get_or-set_other}
use borrow.Author.Count.{below_more}
use borrow.Author.Tests.{eq-eqb, ne_eqb, eqb-true, eqb-false, leb-true, leb-false, ltb-true}
use Rattle.meaning.specs.Text.{first_from}
use Rattle.meaning.specs.Deciding.{bit}
use Rattle.laws.proofs.Bits.{bit_and_lem, bit_or_lem, bit_down}
use Rattle.laws.proofs.Bools.{Test, passed, failed, test, and_true as both_true}
use Rattle.laws.proofs.Search.{first_none}
use Rattle.matching.proofs.Moving.{up_high, up_low}
use Rattle.blocks.proofs.Combining.{bit_without}
use Rattle.segments.specs.Turning.{mixed, Mask, ExchangedWord, Exchanged, Turned}

-- Digit s of a number below 64, taken away or put in
record Digits (s : ℕ) : Type 0 where
  small : 2 ^ s < 64
  up : (k : ℕ) → k < 64 → k / 2 ^ s % 2 ≡ 0 → (k + 2 ^ s < 64) × ((k + 2 ^ s) / 2 ^ s % 2 ≡ 1)
  down : (k : ℕ) → k / 2 ^ s % 2 ≡ 1 → (2 ^ s ≤ k) × ((k - 2 ^ s) / 2 ^ s % 2 ≡ 0)
  under : (k : ℕ) → 2 ^ s ≤ k → k / 2 ^ s % 2 ≡ 0 → (k - 2 ^ s) / 2 ^ s % 2 ≡ 1

digits : (s : ℕ) → s < 6 → Digits s
digits zero l = record { small = omega arith; up = λ k a b. omega arith; down = λ k a. omega arith; under = λ k a b. omega arith }
digits (suc zero) l = record { small = omega arith; up = λ k a b. omega arith; down = λ k a. omega arith; under = λ k a b. omega arith }
digits (suc (suc zero)) l = record { small = omega arith; up = λ k a b. omega arith; down = λ k a. omega arith; under = λ k a b. omega arith }
digits (suc (suc (suc zero))) l = record { small = omega arith; up = λ k a b. omega arith; down = λ k a. omega arith; under = λ k a b. omega arith }
digits (suc (suc (suc (suc zero)))) l = record { small = omega arith; up = λ k a b. omega arith; down = λ k a. omega arith; under = λ k a b. omega arith }
digits (suc (suc (suc (suc (suc zero))))) l = record { small = omega arith; up = λ k a b. omega arith; down = λ k a. omega arith; under = λ k a b. omega arith }
digits (suc (suc (suc (suc (suc (suc s)))))) l = absurd (omega arith)

-- a number's digit, as a test
digit_off : (k s : ℕ) → bit k s ≡ false → k / 2 ^ s % 2 ≡ 0
digit_off k s e = let other = eqb-false (k / 2 ^ s % 2) 1 e in omega (arith, other)

off_digit : (k s : ℕ) → k / 2 ^ s % 2 ≡ 0 → bit k s ≡ false
off_digit k s e = ne_eqb (k / 2 ^ s % 2) 1 (λ h. omega arith)

-- where the code may look: the place is inside, and the shift below 64
pub up_inside : (s k j : ℕ) → s < 6 → k < 64 → j ≡ 2 ^ s → k / 2 ^ s % 2 ≡ 0 → k + j < 64
up_inside s k j ls lk e off = let d = digits s ls in rw e (d.up k lk off).0

pub down_inside : (s k j : ℕ) → s < 6 → j ≡ 2 ^ s → (k / 2 ^ s % 2 ≡ 0 → ⊥) → j ≤ k
down_inside s k j ls e on = let d = digits s ls in rw e (d.down k (omega (arith, on))).0

pub shift_inside : (s j : ℕ) → s < 6 → j ≡ 2 ^ s → j < 64
shift_inside s j ls e = let d = digits s ls in rw e d.small

-- Word k, whose digit s is off, and on
module _ (old : List ℕ) (s k mask : ℕ) (ls : s < 6) (lk : k < 64) (masked : Mask s mask) where
  abbrev low_word : ℕ → ℕ
  low_word j = bit_or (bit_and (get_or old k 0) mask) (bit_and (get_or old (k + j) 0) mask * 2 ^ j % 2 ^ 64)

  abbrev high_word : ℕ → ℕ
  high_word j = bit_or (bit_and (get_or old (k - j) 0 / 2 ^ j) mask) (bit_xor (get_or old k 0) (bit_and (get_or old k 0) mask))

  -- the bits that come from the other word
  raised_on : (x v : ℕ) → v < 64 → bit v s ≡ true → bit (bit_and x mask * 2 ^ (2 ^ s) % 2 ^ 64) v ≡ bit x (v - 2 ^ s)
  raised_on x v l e =
      let (high, off) = (digits s ls).down v (eqb-true (v / 2 ^ s % 2) 1 e) in
      up_high (bit_and x mask) (2 ^ s) v l high
      ∙ bit_and_lem x mask (v - 2 ^ s)
      ∙ rw (masked (v - 2 ^ s) (omega arith), off_digit (v - 2 ^ s) s off) (and-true (bit x (v - 2 ^ s)))

  raised_off : (x v : ℕ) → v < 64 → bit v s ≡ false → bit (bit_and x mask * 2 ^ (2 ^ s) % 2 ^ 64) v ≡ false
  raised_off x v l e = go (test (leb (2 ^ s) v))
    where
      go : Test (leb (2 ^ s) v) → bit (bit_and x mask * 2 ^ (2 ^ s) % 2 ^ 64) v ≡ false
      go (failed t) = up_low (bit_and x mask) (2 ^ s) v l (leb-false (2 ^ s) v t)
      go (passed t) =
          let high = leb-true (2 ^ s) v t in
          let on : bit (v - 2 ^ s) s ≡ true = eq-eqb _ 1 ((digits s ls).under v high (digit_off v s e)) in
          up_high (bit_and x mask) (2 ^ s) v l high
          ∙ bit_and_lem x mask (v - 2 ^ s)
          ∙ rw (masked (v - 2 ^ s) (omega arith), on) (and-false (bit x (v - 2 ^ s)))

  -- where its bits come from
  pub exchange_low : (j : ℕ) → j ≡ 2 ^ s → k / 2 ^ s % 2 ≡ 0 → (v : ℕ) → v < 64 → bit (low_word j) v ≡ bit (get_or old (mixed s k v) 0) (mixed s v k)
  exchange_low j power off v l = rw power (go (test (bit v s)))
    where
      bits : bit (low_word (2 ^ s)) v ≡ ((bit (get_or old k 0) v && not (bit v s)) || bit (bit_and (get_or old (k + 2 ^ s) 0) mask * 2 ^ (2 ^ s) % 2 ^ 64) v)
      bits = bit_or_lem (bit_and (get_or old k 0) mask) _ v ∙ ap (λ x. x || bit (bit_and (get_or old (k + 2 ^ s) 0) mask * 2 ^ (2 ^ s) % 2 ^ 64) v) (bit_and_lem (get_or old k 0) mask v ∙ ap (λ x. bit (get_or old k 0) v && x) (masked v l))

      go : Test (bit v s) → bit (low_word (2 ^ s)) v ≡ bit (get_or old (mixed s k v) 0) (mixed s v k)
      go (passed e) = bits ∙ rw (raised_on (get_or old (k + 2 ^ s) 0) v l e, e, off_digit k s off, and-false)
      go (failed e) = bits ∙ rw (raised_off (get_or old (k + 2 ^ s) 0) v l e, e, off_digit k s off, and-true, or-false)

  pub exchange_high : (j : ℕ) → j ≡ 2 ^ s → (k / 2 ^ s % 2 ≡ 0 → ⊥) → (v : ℕ) → v < 64 → bit (high_word j) v ≡ bit (get_or old (mixed s k v) 0) (mixed s v k)
  exchange_high j power on v l = rw power (go (test (bit v s)))
    where
      set_digit : bit k s ≡ true
      set_digit = eq-eqb (k / 2 ^ s % 2) 1 (omega (arith, on))

      bits : bit (high_word (2 ^ s)) v ≡ ((bit (get_or old (k - 2 ^ s) 0) (2 ^ s + v) && not (bit v s)) || (bit (get_or old k 0) v && not (not (bit v s))))
      bits =
          bit_or_lem (bit_and (get_or old (k - 2 ^ s) 0 / 2 ^ (2 ^ s)) mask) _ v
          ∙ ap₂ ◌||◌ (bit_and_lem (get_or old (k - 2 ^ s) 0 / 2 ^ (2 ^ s)) mask v ∙ ap₂ ◌&&◌ (bit_down (get_or old (k - 2 ^ s) 0) (2 ^ s) v) (masked v l))
          (bit_without (get_or old k 0) mask v ∙ ap (λ x. bit (get_or old k 0) v && not x) (masked v l))

      go : Test (bit v s) → bit (high_word (2 ^ s)) v ≡ bit (get_or old (mixed s k v) 0) (mixed s v k)
      go (passed e) = bits ∙ rw (e, set_digit, and-false, and-true)
      go (failed e) = let at : 2 ^ s + v ≡ v + 2 ^ s = omega arith in bits ∙ rw (at, e, set_digit, and-true, and-false, or-false)

-- The masks
pub record Masks : Type 0 where
  pub m0 : Mask 0 6148914691236517205
  pub m1 : Mask 1 3689348814741910323
  pub m2 : Mask 2 1085102592571150095
  pub m3 : Mask 3 71777214294589695
  pub m4 : Mask 4 281470681808895
  pub m5 : Mask 5 4294967295

-- two truth values that the test finds equal
abbrev alike : Bool → Bool → Bool
alike true b = b
alike false b = not b

alike_is : (a b : Bool) → not (alike a b) ≡ false → a ≡ b
alike_is true true e = refl
alike_is true false e = e
alike_is false true e = sym e
alike_is false false e = refl

mask_by : (s mask : ℕ) → first_from (λ v. not (alike (bit mask v) (not (bit v s)))) 0 64 ≡ none → Mask s mask
mask_by s mask e v l = alike_is (bit mask v) (not (bit v s)) (first_none (λ v. not (alike (bit mask v) (not (bit v s)))) 0 64 e v zero-le (omega arith))

pub masks : Masks
masks = record { m0 = mask_by 0 6148914691236517205 refl; m1 = mask_by 1 3689348814741910323 refl; m2 = mask_by 2 1085102592571150095 refl; m3 = mask_by 3 71777214294589695 refl; m4 = mask_by 4 281470681808895 refl; m5 = mask_by 5 4294967295 refl }

-- All six digits: where a bit comes from, through each exchange, is where it should
abbrev Place : Type 0
Place = ℕ × ℕ

abbrev from : ℕ → Place → Place
from s p = (mixed s p.0 p.1, mixed s p.1 p.0)

abbrev inside : Place → Bool
inside p = ltb p.0 64 && ltb p.1 64

traced : ℕ → ℕ → Bool
traced k v =
    let p5 = from 5 (k, v) in
    let p4 = from 4 p5 in
    let p3 = from 3 p4 in
    let p2 = from 2 p3 in
    let p1 = from 1 p2 in
    let p0 = from 0 p1 in
    inside p5 && (inside p4 && (inside p3 && (inside p2 && (inside p1 && (eqb p0.0 v && eqb p0.1 k)))))

all_traced : first_from (λ x. not (alike (traced (x / 64) (x % 64)) true)) 0 4096 ≡ none
unfolding traced
all_traced = refl

trace : (k v : ℕ) → k < 64 → v < 64 → traced k v ≡ true
trace k v lk lv =
    let word : (64 * k + v) / 64 ≡ k = omega arith in
    let at : (64 * k + v) % 64 ≡ v = omega arith in
    alike_is (traced k v) true (sym (ap₂ (λ a b. not (alike (traced a b) true)) word at) ∙ first_none (λ x. not (alike (traced (x / 64) (x % 64)) true)) 0 4096 all_traced (64 * k + v) zero-le (omega arith))

step : (s : ℕ) (old new : List ℕ) → Exchanged s old new → (p : Place) → inside p ≡ true → bit (get_or new p.0 0) p.1 ≡ bit (get_or old (from s p).0 0) (from s p).1
step s old new x p e = let (a, b) = both_true (ltb p.0 64) (ltb p.1 64) e in (x p.0 (ltb-true p.0 64 a)).0 p.1 (ltb-true p.1 64 b)

pub turned_all : (w0 w1 w2 w3 w4 w5 w6 : List ℕ) → Exchanged 0 w0 w1 → Exchanged 1 w1 w2 → Exchanged 2 w2 w3 → Exchanged 3 w3 w4 → Exchanged 4 w4 w5 → Exchanged 5 w5 w6 → Turned w0 w6
unfolding traced
turned_all w0 w1 w2 w3 w4 w5 w6 x0 x1 x2 x3 x4 x5 = record { bits = λ k v lk lv. go k v lk lv (trace k v lk lv); fits = λ k l. (x5 k l).1 }
  where
    go : (k v : ℕ) → k < 64 → v < 64 → traced k v ≡ true → bit (get_or w6 k 0) v ≡ bit (get_or w0 v 0) k
    go k v lk lv t =
        let p5 = from 5 (k, v) in
        let p4 = from 4 p5 in
        let p3 = from 3 p4 in
        let p2 = from 2 p3 in
        let p1 = from 1 p2 in
        let p0 = from 0 p1 in
        let (a5, t5) = both_true (inside p5) _ t in
        let (a4, t4) = both_true (inside p4) _ t5 in
        let (a3, t3) = both_true (inside p3) _ t4 in
        let (a2, t2) = both_true (inside p2) _ t3 in
        let (a1, t1) = both_true (inside p1) _ t2 in
        let (at-word, at-bit) = both_true (eqb p0.0 v) (eqb p0.1 k) t1 in
        (x5 k lk).0 v lv
        ∙ step 4 w4 w5 x4 p5 a5
        ∙ step 3 w3 w4 x3 p4 a4
        ∙ step 2 w2 w3 x2 p3 a3
        ∙ step 1 w1 w2 x1 p2 a2
        ∙ step 0 w0 w1 x0 p1 a1
        ∙ ap₂ (λ w b. bit (get_or w0 w 0) b) (eqb-true p0.0 v at-word) (eqb-true p0.1 k at-bit)

-- The first k words are exchanged
pub record Exchanges (s : ℕ) (old new : List ℕ) (k : ℕ) : Type 0 where
  pub size : length new ≡ 64
  pub done : (i : ℕ) → i < k → ExchangedWord s i old (get_or new i 0) × (get_or new i 0 < 2 ^ 64)

pub exchanges_none : (s : ℕ) (old : List ℕ) → Exchanges s old (replicate 64 0) 0
exchanges_none s old = record { size = length-replicate {A = ℕ} 64 0; done = λ i l. absurd (omega arith) }

pub exchanges_next : (s : ℕ) (old new : List ℕ) (k w : ℕ) → k < 64 → ExchangedWord s k old w → w < 2 ^ 64 → Exchanges s old new k → Exchanges s old (set new k w) (k + 1)
exchanges_next s old new k w l word fits so_far = record { size = length-set new k w ∙ so_far.size; done = below_more _ k earlier (rw (get_or-set_same new k w 0 (omega (arith, so_far.size))) (word, fits)) }
  where
    earlier : (i : ℕ) → i < k → ExchangedWord s i old (get_or (set new k w) i 0) × (get_or (set new k w) i 0 < 2 ^ 64)
    earlier i u = rw (get_or-set_other new k i w 0 (omega arith)) (so_far.done i u)
