-- A word bit by bit from the lowest, and the lowest that is set.
use Prim.Native.Nat.{ℕ, zero, suc, ◌/◌, ◌%◌, ◌^◌, ◌<◌}
use mathlib.Core.Path.{◌≡◌, refl, sym, ap, ◌∙◌}
use mathlib.Core.Bool.{true, false}
use native.Mathlib.Nat.{pow-succ', div-one, div-div-eq-div-mul}
use native.Mathlib.Omega.{arith}
use lib.Count.{count_trailing_zeros}
use lib.Dec.{eqb}
use Rattle.meaning.specs.Deciding.{bit}
use Rattle.blocks.specs.Bits.{Lowest}

-- a word's lowest bit, and the bits above it
pub bit_lowest : (x : ℕ) → bit x 0 ≡ eqb (x % 2) 1
bit_lowest x = ap (λ y. eqb (y % 2) 1) (div-one x)

pub bit_higher : (x i : ℕ) → bit x (suc i) ≡ bit (x / 2) i
bit_higher x i = ap (λ y. eqb (y % 2) 1) (ap (λ y. x / y) (pow-succ' 2 i) ∙ sym (div-div-eq-div-mul x 2 (2 ^ i)))

-- The lowest set bit of a word of k bits
record LowestOf (k word r : ℕ) : Type 0 where
  small : r < k
  set : bit word r ≡ true
  none_below : (v : ℕ) → v < r → bit word v ≡ false

lowest_of : (k word : ℕ) → 0 < word → word < 2 ^ k → LowestOf k word (count_trailing_zeros k word)
unfolding count_trailing_zeros
lowest_of zero word pos fits = absurd (omega arith)
lowest_of (suc k) word pos fits = go (word % 2) refl (lowest_of k (word / 2))
  where
    go : (d : ℕ) → word % 2 ≡ d → (0 < word / 2 → word / 2 < 2 ^ k → LowestOf k (word / 2) (count_trailing_zeros k (word / 2))) → LowestOf (suc k) word (count_trailing_zeros (suc k) word)
    go zero even later =
        let half = later (omega arith) (omega (arith, pow-succ' 2 k)) in
        rw even
        record {
          small = omega (arith, half.small);
          set = bit_higher word (count_trailing_zeros k (word / 2)) ∙ half.set;
          none_below = λ v l. below half v l;
        }
      where
        below : LowestOf k (word / 2) (count_trailing_zeros k (word / 2)) → (v : ℕ) → v < suc (count_trailing_zeros k (word / 2)) → bit word v ≡ false
        below half zero l = bit_lowest word ∙ rw even
        below half (suc v) l = bit_higher word v ∙ half.none_below v (omega arith)
    go (suc d) odd later = let one : d ≡ 0 = omega arith in rw odd record { small = omega arith; set = bit_lowest word ∙ rw (odd, one); none_below = λ v l. absurd (omega arith) }

pub lowest_is : (word : ℕ) → 0 < word → word < 2 ^ 64 → Lowest word (count_trailing_zeros 64 word)
lowest_is word pos fits = let found = lowest_of 64 word pos fits in record { small = found.small; set = found.set; none_below = found.none_below }
