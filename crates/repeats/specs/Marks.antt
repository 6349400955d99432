-- Names by their hashes, in sets of 16,384 bits: equal names have the same two bits, so a name that lacks one of them is not in the set.
use Rattle.std.specs.Prelude.{◌≡◌, ℕ, ◌+◌, ◌-◌, ◌*◌, ◌/◌, ◌%◌, ◌^◌, ◌≤◌, ◌<◌, Bool, true, ◌&&◌, List, [], ◌∷◌, length, get_or, set, drop}
use Rattle.std.specs.Int.Bits.{bit_or}
use Rattle.meaning.specs.Text.{Bytes, among_names, cut, tab}
use Rattle.meaning.specs.Deciding.{bit}
use Rattle.names.specs.Letters.{caseless}

-- the hash of a name, from its last byte to its first, the same in either letter case
abbrev pub hash_step : ℕ → ℕ → ℕ
hash_step b h = (h % 4294967296 + caseless b) * 374761393

abbrev pub hash_of : Bytes → ℕ
hash_of [] = 0
hash_of (b ∷ bs) = hash_step b (hash_of bs)

-- bit p of the words, and the words with bit p set
unfoldable pub is_set : List ℕ → ℕ → Bool
is_set ws p = bit (get_or ws (p / 64) 0) (p % 64)

unfoldable pub with_bit : List ℕ → ℕ → List ℕ
with_bit ws p = set ws (p / 64) (bit_or (get_or ws (p / 64) 0) (2 ^ (p % 64)))

-- the two bits of a hash: 14 of its binary digits each
abbrev pub first_bit : ℕ → ℕ
first_bit h = h / 262144 % 16384

abbrev pub second_bit : ℕ → ℕ
second_bit h = h % 16384

unfoldable pub marked : List ℕ → ℕ → Bool
marked ws h = is_set ws (first_bit h) && is_set ws (second_bit h)

unfoldable pub with_mark : List ℕ → ℕ → List ℕ
with_mark ws h = with_bit (with_bit ws (first_bit h)) (second_bit h)

-- the first field of the text from a place on, and those behind it
abbrev pub first_at : Bytes → ℕ → Bytes
first_at s i = get_or (cut tab (drop i s)) 0 []

abbrev pub others_at : Bytes → ℕ → List Bytes
others_at s i = drop 1 (cut tab (drop i s))

-- a set in which every field that passes a test is marked
abbrev pub Kept : (ℕ → Bool) → List ℕ → List Bytes → Type 0
Kept t ws [] = length ws ≡ 256
Kept t ws (f ∷ fs) = (t (hash_of f) ≡ true → marked ws (hash_of f) ≡ true) × Kept t ws fs

-- a set in which every field that stands again behind is marked
abbrev pub Caught : List ℕ → List Bytes → Type 0
Caught ws [] = length ws ≡ 256
Caught ws (f ∷ fs) = (among_names f fs ≡ true → marked ws (hash_of f) ≡ true) × Caught ws fs

-- The field that ends at a place: where it starts, behind a tab or first, and its hash; behind it are those behind the place
pub record LastField (s : Bytes) (end start hash : ℕ) : Type 0 where
  pub within : start ≤ end
  pub hashed : hash ≡ hash_of (first_at s start)
  pub others : others_at s start ≡ others_at s end
  pub before : 0 < start → get_or s (start - 1) 0 ≡ tab

-- A field to pass and its hash: the set has the suspects behind it, and it is a suspect if it stands again behind
pub record Passing (s : Bytes) (at h : ℕ) (suspects passed : List ℕ) : Type 0 where
  pub within : at ≤ length s
  pub hashed : h ≡ hash_of (first_at s at)
  pub kept : Kept (marked suspects) passed (others_at s at)
  pub caught : among_names (first_at s at) (others_at s at) ≡ true → marked suspects h ≡ true
