-- Test 8 by the value counts alone, mask by mask.
use Prim.Native.Nat.{ℕ, ◌+◌, ◌-◌, ◌^◌, ◌≤◌, ◌<◌}
use mathlib.Core.Path.{◌≡◌, refl}
use mathlib.Core.Bool.{Bool, true, ◌||◌, or-true}
use mathlib.Core.List.{List, [], ◌∷◌}
use lib.Dec.{eqb, ltb}
use lib.ListN.{length, drop, get_or, drop_of_length-le}
use borrow.Author.Tests.{eq-eqb, ne_eqb, lt-ltb, le-ltb}
use Rattle.meaning.specs.Model.{Attribute}
use Rattle.meaning.specs.Reading.{non_zero, bad_masks}
use Rattle.text.proofs.Pieces.{drop_next}
use Rattle.layout.specs.Places.{value_counts}

-- the test where the attributes have so many values
abbrev pub wrong_masks : List ℕ → List ℕ → Bool
wrong_masks [] ms = non_zero ms
wrong_masks (n ∷ ns) [] = true
wrong_masks (n ∷ ns) (m ∷ ms) = eqb m 0 || ltb ((2 ^ n) - 1) m || wrong_masks ns ms

pub masks_by_counts : (attrs : List Attribute) (ms : List ℕ) → bad_masks attrs ms ≡ wrong_masks (value_counts attrs) ms
masks_by_counts [] ms = refl
masks_by_counts (a ∷ attrs) [] = refl
masks_by_counts (a ∷ attrs) (m ∷ ms) = rw (masks_by_counts attrs ms)

module _ (ns ms : List ℕ) (i : ℕ) where
  -- behind the last attribute
  pub masks_end : length ns ≤ i → wrong_masks (drop i ns) (drop i ms) ≡ non_zero (drop i ms)
  masks_end l = rw (drop_of_length-le ns l)

  -- the mask of an attribute
  module _ (l : i < length ns) (k : i < length ms) where
    pub mask_empty : get_or ms i 0 ≡ 0 → wrong_masks (drop i ns) (drop i ms) ≡ true
    mask_empty is-empty = rw (drop_next ns i l, drop_next ms i k, eq-eqb (get_or ms i 0) 0 is-empty)

    pub mask_high : (2 ^ get_or ns i 0) - 1 < get_or ms i 0 → wrong_masks (drop i ns) (drop i ms) ≡ true
    mask_high high = rw (drop_next ns i l, drop_next ms i k, lt-ltb ((2 ^ get_or ns i 0) - 1) (get_or ms i 0) high, or-true)

    pub mask_good : (get_or ms i 0 ≡ 0 → ⊥) → get_or ms i 0 ≤ (2 ^ get_or ns i 0) - 1 → wrong_masks (drop i ns) (drop i ms) ≡ wrong_masks (drop (i + 1) ns) (drop (i + 1) ms)
    mask_good has-bit low = rw (drop_next ns i l, drop_next ms i k, ne_eqb (get_or ms i 0) 0 has-bit, le-ltb ((2 ^ get_or ns i 0) - 1) (get_or ms i 0) low)
