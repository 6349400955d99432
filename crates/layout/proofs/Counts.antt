-- The attributes by their places: how many values each has, how many choices in the space, and where it may have
-- several in a request.
use mathlib.Core.Path.{◌≡◌, refl, sym, ap, ap₂, ◌∙◌}
use Prim.Native.Nat.{ℕ, zero, suc, ◌+◌, ◌-◌, ◌^◌, ◌≤◌, ◌<◌}
use native.Mathlib.Nat.{sub-zero}
use native.Mathlib.Numerals.{add-one}
use native.Mathlib.Omega.{arith}
use mathlib.Core.Bool.{true, false}
use mathlib.Core.List.{List, [], ◌∷◌, map}
use lib.ListN.{length, take, drop, get_or, get_or-map, set, replicate, length-replicate, get_or-append}
use Rattle.std.proofs.lemmas.List.{length-map}
use lib.Pow.{pow_pos}
use lib.Seq.{sets, sets-eq, drop-cons, take-append_seam}
use Rattle.meaning.specs.Text.{Bytes, tab}
use Rattle.meaning.specs.Model.{padded, sizes, severals, choices_of}
use Rattle.laws.proofs.Text.{cut_some, some_piece}
use Rattle.requests.proofs.Laid.{drop_zeros}
use Rattle.layout.specs.declared.AttributePlace.{AttributePlace}
use Rattle.layout.specs.declared.Attributes.{Attributes}
use Rattle.layout.specs.Places.{nowhere, place_at, values_in, attributes_from, attributes_of, AllStanding, FewValues, value_counts, severals_at, counts_at, sizes_from, sizes_of}

-- Numbers laid over zeros
pub laid_padded : (n : ℕ) (xs : List ℕ) → length xs ≤ n → sets (replicate n 0) 0 xs ≡ padded n xs
laid_padded n xs few =
    let behind-none : 0 + length xs ≡ length xs = omega arith in
    sets-eq xs (replicate n 0) 0 (omega (arith, length-replicate {A = ℕ} n 0)) ∙ rw (behind-none, drop_zeros (length xs) n)

-- The sizes from i on
module _ (a : Attributes) where
  sizes_length : (i n : ℕ) → length (sizes_from a i n) ≡ n
  unfolding sizes_from
  sizes_length i zero = refl
  sizes_length i (suc n) = ap suc (sizes_length (i + 1) n)

  pub sizes_start : a.len ≤ 6 → sets (replicate 6 0) 0 (sizes_from a 0 (a.len - 0)) ≡ padded 6 (sizes_from a 0 a.len)
  sizes_start few = rw (sub-zero a.len) (laid_padded 6 (sizes_from a 0 a.len) (omega (arith, sizes_length 0 a.len)))

  pub sizes_more : (laid : List ℕ) (n i : ℕ) → i < n → sets (set laid i (choices_of (place_at a i).several (place_at a i).count)) (i + 1) (sizes_from a (i + 1) (n - (i + 1))) ≡ sets laid i (sizes_from a i (n - i))
  unfolding sizes_from
  sizes_more laid n i l =
      let more : n - i ≡ suc (n - (i + 1)) = omega arith in
      let size = choices_of (place_at a i).several (place_at a i).count in
      ap (λ m. sets (set laid i size) m (sizes_from a (i + 1) (n - (i + 1)))) (add-one i) ∙ ap (λ m. sets laid i (sizes_from a i m)) (sym more)

  pub sizes_end : (laid : List ℕ) (n i : ℕ) → n ≤ i → sets laid i (sizes_from a i (n - i)) ≡ laid
  unfolding sizes_from
  sizes_end laid n i l = let none_left : n - i ≡ 0 = omega arith in rw none_left

  size_at_lem : (i n k : ℕ) → k < n → get_or (sizes_from a i n) k 0 ≡ choices_of (place_at a (i + k)).several (place_at a (i + k)).count
  unfolding sizes_from
  size_at_lem i zero k l = absurd (omega arith)
  size_at_lem i (suc n) zero l = let here : i + 0 ≡ i = omega arith in rw here
  size_at_lem i (suc n) (suc k) l = let there : (i + 1) + k ≡ i + suc k = omega arith in rw (size_at_lem (i + 1) n k (omega arith), there)

  -- Where an attribute may have several values in a request, it counts their sets but the empty one
  pub sets_counted : (i : ℕ) → i < a.len → get_or (severals_at a) i false ≡ true → get_or (sizes_of a) i 0 + 1 ≡ 2 ^ (place_at a i).count
  unfolding sizes_of
  sets_counted i l several =
      let all = sizes_from a 0 a.len in
      let here : 0 + i ≡ i = omega arith in
      let inside : i < length all = omega (arith, sizes_length 0 a.len) in
      let size : get_or (sizes_of a) i 0 ≡ 2 ^ (place_at a i).count - 1 = get_or-append all (replicate (6 - length all) 0) 0 i inside ∙ size_at_lem 0 a.len i l ∙ rw (here, sym (get_or-map (λ p. p.several) a.all i nowhere) ∙ several) in
      omega (arith, size, pow_pos (place_at a i).count)

-- one more of what the places say
picked : {A : Type 0} (g : AttributePlace → A) (ps : List AttributePlace) (i k : ℕ) → i < length ps → g (get_or ps i nowhere) ∷ take k (drop (i + 1) (map g ps)) ≡ take (suc k) (drop i (map g ps))
picked g ps i k l =
    let next : suc i ≡ i + 1 = omega arith in
    sym (ap (take (suc k)) (drop-cons (map g ps) i (g nowhere) (omega (arith, length-map ps g))) ∙ rw (get_or-map g ps i nowhere, next))

severals_from : (f : Bytes) (a : Attributes) (i k : ℕ) → i + k ≤ length a.all → severals (attributes_from f a i k) ≡ take k (drop i (severals_at a))
unfolding attributes_from
severals_from f a i zero l = refl
severals_from f a i (suc k) l = ap (λ bs. (place_at a i).several ∷ bs) (severals_from f a (i + 1) k (omega arith)) ∙ picked (λ p. p.several) a.all i k (omega arith)

pub severals_are : (f : Bytes) (a : Attributes) → a.len ≤ length a.all → severals (attributes_of f a) ≡ take a.len (severals_at a)
severals_are f a l = severals_from f a 0 a.len (omega arith)

-- at most 16 values each
pub counts_few : (a : Attributes) → FewValues a → (i : ℕ) → i < a.len → get_or (counts_at a) i 0 ≤ 16
counts_few a few i l = rw (get_or-map (λ p. p.count) a.all i nowhere) (few i l)

-- attributes that stand have places
place_inside : (ps : List AttributePlace) (i : ℕ) → 1 ≤ (get_or ps i nowhere).count → i < length ps
place_inside [] i l = absurd (omega arith)
place_inside (p ∷ ps) zero l = omega arith
place_inside (p ∷ ps) (suc i) l = let inside = place_inside ps i l in omega arith

module _ (f : Bytes) (a : Attributes) (standing : AllStanding f a) where
  count_at : (i : ℕ) → i < a.len → 1 ≤ (place_at a i).count
  count_at i l = rw (standing.each i l).count (some_piece (cut_some tab (values_in f a i)))

  counts_from : (i k : ℕ) → i + k ≤ a.len → take k (drop i (counts_at a)) ≡ value_counts (attributes_from f a i k)
  unfolding attributes_from
  counts_from i zero l = refl
  counts_from i (suc k) l =
      let here : i < a.len = omega arith in
      sym (picked (λ p. p.count) a.all i k (place_inside a.all i (count_at i here)))
      ∙ ap₂ (λ x xs. x ∷ xs) (standing.each i here).count (counts_from (i + 1) k (omega arith))

  pub counts_are : take a.len (counts_at a) ≡ value_counts (attributes_of f a)
  counts_are = counts_from 0 a.len (omega arith)

  sizes_from_lem : (i k : ℕ) → i + k ≤ a.len → sizes_from a i k ≡ sizes (attributes_from f a i k)
  unfolding attributes_from sizes_from
  sizes_from_lem i zero l = refl
  sizes_from_lem i (suc k) l = ap₂ (λ n ns. choices_of (place_at a i).several n ∷ ns) (standing.each i (omega arith)).count (sizes_from_lem (i + 1) k (omega arith))

  pub sizes_are : take a.len (sizes_of a) ≡ sizes (attributes_of f a)
  unfolding sizes_of
  sizes_are =
      let all = sizes_from a 0 a.len in
      ap (λ n. take n (padded 6 all)) (sym (sizes_length a 0 a.len)) ∙ take-append_seam all (replicate (6 - length all) 0) ∙ sizes_from_lem 0 a.len (omega arith)
