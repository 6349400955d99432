-- Targets: masks of 16 bits, and the attributes looked at one by one.
use Prim.Native.Nat.{ℕ, ◌+◌, ◌%◌, ◌^◌, ◌≤◌, ◌<◌}
use mathlib.Core.Path.{◌≡◌}
use mathlib.Core.Bool.{Bool, true, false, ◌&&◌}
use mathlib.Core.List.{List, ◌∷◌}
use native.Mathlib.Nat.{div-eq_of_lt, lt_of_lt_of_le}
use native.Mathlib.Numerals.{add-one}
use native.Mathlib.Omega.{arith}
use lib.Pow.{pow_mono}
use lib.ListN.{length, take, drop, get_or}
use lib.Seq.{length-take-le, drop-cons, get_or-take}
use Rattle.meaning.specs.Deciding.{bit, in_field, within}
use Rattle.requests.proofs.Laws.{rest_cons, rest_none}

pub no_high_bit : (m v : ℕ) → m < 2 ^ 16 → 16 ≤ v → bit m v ≡ false
no_high_bit m v mask high = rw (div-eq_of_lt (lt_of_lt_of_le mask (pow_mono high)))

-- a set's mask by its last 12 bits
pub set_mask : (v : ℕ) → (v % 4096 + 1) % 4096 ≡ (v + 1) % 4096
set_mask v = omega arith

-- the letters and the values of n attributes and their masks, all from place i on
abbrev pub within_from : ℕ → ℕ → List Bool → List ℕ → List ℕ → Bool
within_from n i bs masks vs = within (drop i (take n bs)) (drop i masks) (drop i (take n vs))

pub letters_cons : (n i : ℕ) (bs : List Bool) → i < n → n ≤ length bs → drop i (take n bs) ≡ get_or bs i false ∷ drop (i + 1) (take n bs)
letters_cons n i bs h l = rw (drop-cons (take n bs) i false (omega (arith, length-take-le n bs l)), get_or-take n bs i false h, add-one i)

module _ (n i : ℕ) (bs : List Bool) (masks vs : List ℕ) (fields : n ≤ length masks) (letters : n ≤ length bs) (values : n ≤ length vs) where
  -- one attribute more is looked at
  pub within_more : i < n → within_from n i bs masks vs ≡ (in_field (get_or bs i false) (get_or masks i 0) (get_or vs i 0) && within_from n (i + 1) bs masks vs)
  within_more l = rw (letters_cons n i bs l letters, drop-cons masks i 0 (omega arith), rest_cons n i vs l values, add-one i)

  pub within_all : i ≡ n → within_from n i bs masks vs ≡ true
  within_all e = rw (rest_none n i vs values e)
