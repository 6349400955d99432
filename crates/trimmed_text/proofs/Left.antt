-- What flags leave of a list: its elements by their places, and what one flag more strikes.
use mathlib.Core.Path.{◌≡◌, refl, sym, ap, ◌∙◌}
use Prim.Native.Nat.{ℕ, zero, suc, ◌+◌, ◌≤◌, ◌<◌}
use native.Mathlib.Nat.{zero-add, add-zero}
use native.Mathlib.Omega.{arith}
use mathlib.Core.Bool.{true, false, cond}
use mathlib.Core.List.{List, [], ◌∷◌, map}
use lib.ListN.{length, get_or, set}
use lib.Seq.{get_or-set_same, get_or-set_other}
use Rattle.meaning.specs.Text.{without}
use Rattle.laws.proofs.Bools.{Test, passed, failed, test}
use Rattle.laws.proofs.Trimming.{length_without}
use Rattle.trimmed_text.specs.Flags.{is_left, Clear, left_from}

-- how many of n places are left, from place i on
unfoldable pub left_count : List ℕ → ℕ → ℕ → ℕ
left_count struck i zero = 0
left_count struck i (suc n) =
    let later = left_count struck (i + 1) n in
    cond (is_left struck i) (suc later) later

-- more places below, more of them left
pub count_rises : (struck : List ℕ) (i m n : ℕ) → m < n → is_left struck (i + m) ≡ true → left_count struck i m < left_count struck i n
unfolding left_count
count_rises struck i m zero l e = absurd (omega arith)
count_rises struck i zero (suc n) l e = let here : is_left struck i ≡ true = rw add-zero at e in rw here (omega arith)
count_rises struck i (suc m) (suc n) l e =
    let at : i + suc m ≡ (i + 1) + m = omega arith in
    go (test (is_left struck i)) (count_rises struck (i + 1) m n (omega arith) (rw at at e))
  where
    go : Test (is_left struck i) → left_count struck (i + 1) m < left_count struck (i + 1) n → left_count struck i (suc m) < left_count struck i (suc n)
    go (passed x) later = rw x (omega arith)
    go (failed x) later = rw x later

module _ {A : Type 0} where
  -- flags that agree leave the same
  left_agree : (s t : List ℕ) (i : ℕ) (xs : List A) → ((j : ℕ) → i ≤ j → get_or s j 0 ≡ get_or t j 0) → left_from s i xs ≡ left_from t i xs
  unfolding left_from
  left_agree s t i [] h = refl
  left_agree s t i (x ∷ xs) h = rw (h i (omega arith), left_agree s t (i + 1) xs (λ j l. h j (omega arith)))

  -- flags that are all 0 leave everything
  pub left_all : (s : List ℕ) → Clear s → (i : ℕ) (xs : List A) → left_from s i xs ≡ xs
  unfolding left_from
  left_all s h i [] = refl
  left_all s h i (x ∷ xs) = rw (h i, left_all s h (i + 1) xs)

  module _ (struck : List ℕ) where
    -- the element of a place that is left
    pub left_get : (i m : ℕ) (xs : List A) (d : A) → m < length xs → is_left struck (i + m) ≡ true → get_or (left_from struck i xs) (left_count struck i m) d ≡ get_or xs m d
    unfolding left_from left_count
    left_get i m [] d l e = absurd (omega arith)
    left_get i zero (x ∷ xs) d l e = let here : is_left struck i ≡ true = rw add-zero at e in rw here
    left_get i (suc m) (x ∷ xs) d l e =
        let at : i + suc m ≡ (i + 1) + m = omega arith in
        go (test (is_left struck i)) (left_get (i + 1) m xs d (omega arith) (rw at at e))
      where
        go : Test (is_left struck i) → get_or (left_from struck (i + 1) xs) (left_count struck (i + 1) m) d ≡ get_or xs m d
            → get_or (left_from struck i (x ∷ xs)) (left_count struck i (suc m)) d ≡ get_or xs m d
        go (passed y) later = rw y later
        go (failed y) later = rw y later

    -- it is among those left
    pub left_within : (i m : ℕ) (xs : List A) → m < length xs → is_left struck (i + m) ≡ true → left_count struck i m < length (left_from struck i xs)
    unfolding left_from left_count
    left_within i m [] l e = absurd (omega arith)
    left_within i zero (x ∷ xs) l e = let here : is_left struck i ≡ true = rw add-zero at e in rw here (omega arith)
    left_within i (suc m) (x ∷ xs) l e =
        let at : i + suc m ≡ (i + 1) + m = omega arith in
        go (test (is_left struck i)) (left_within (i + 1) m xs (omega arith) (rw at at e))
      where
        go : Test (is_left struck i) → left_count struck (i + 1) m < length (left_from struck (i + 1) xs) → left_count struck i (suc m) < length (left_from struck i (x ∷ xs))
        go (passed y) later = rw y (omega arith)
        go (failed y) later = rw y later

    -- and each of those has such a place
    pub record PlaceOf (i : ℕ) (xs : List A) (c : ℕ) : Type 0 where
      pub place : ℕ
      pub below : place < length xs
      pub stays : is_left struck (i + place) ≡ true
      pub counts : left_count struck i place ≡ c

    pub left_place : (i : ℕ) (xs : List A) (c : ℕ) → c < length (left_from struck i xs) → PlaceOf i xs c
    unfolding left_from left_count
    left_place i [] c l = absurd (omega arith)
    left_place i (x ∷ xs) c l = go (test (is_left struck i)) c l (left_place (i + 1) xs)
      where
        at : (m : ℕ) → i + suc m ≡ (i + 1) + m
        at m = omega arith

        behind_left : is_left struck i ≡ true → (c : ℕ) → PlaceOf (i + 1) xs c → PlaceOf i (x ∷ xs) (suc c)
        behind_left y c q = record { place = suc q.place; below = omega (arith, q.below); stays = rw (at q.place) q.stays; counts = rw y (ap suc q.counts) }

        behind_struck : is_left struck i ≡ false → (c : ℕ) → PlaceOf (i + 1) xs c → PlaceOf i (x ∷ xs) c
        behind_struck y c q = record { place = suc q.place; below = omega (arith, q.below); stays = rw (at q.place) q.stays; counts = rw y q.counts }

        go : Test (is_left struck i) → (c : ℕ) → c < length (left_from struck i (x ∷ xs)) → ((c : ℕ) → c < length (left_from struck (i + 1) xs) → PlaceOf (i + 1) xs c) → PlaceOf i (x ∷ xs) c
        go (passed y) zero l later = record { place = 0; below = omega arith; stays = rw add-zero y; counts = refl }
        go (passed y) (suc c) l later =
            let below : suc c < suc (length (left_from struck (i + 1) xs)) = rw y at l in
            behind_left y c (later c (omega arith))
        go (failed y) c l later = behind_struck y c (later c (rw y at l))

    -- one flag more strikes that element
    left_without : (i m at : ℕ) (xs : List A) → at ≡ i + m → m < length xs → at < length struck → is_left struck at ≡ true → without (left_count struck i m) (left_from struck i xs) ≡ left_from (set struck at 1) i xs
    unfolding left_from left_count
    left_without i m at [] a l b e = absurd (omega arith)
    left_without i zero at (x ∷ xs) a l b e =
        let here : at ≡ i = omega arith in
        let left : is_left struck i ≡ true = rw (← here) e in
        let gone : get_or (set struck i 1) i 0 ≡ 1 = get_or-set_same struck i 1 0 (omega arith) in
        rw (here, left, gone) (sym (left_agree (set struck at 1) struck (i + 1) xs (λ j low. get_or-set_other struck at j 1 0 (omega arith))))
    left_without i (suc m) at (x ∷ xs) a l b e =
        let other : get_or (set struck at 1) i 0 ≡ get_or struck i 0 = get_or-set_other struck at i 1 0 (omega arith) in
        go other (test (is_left struck i)) (left_without (i + 1) m at xs (omega arith) (omega arith) b e)
      where
        go : get_or (set struck at 1) i 0 ≡ get_or struck i 0 → Test (is_left struck i) → without (left_count struck (i + 1) m) (left_from struck (i + 1) xs) ≡ left_from (set struck at 1) (i + 1) xs
            → without (left_count struck i (suc m)) (left_from struck i (x ∷ xs)) ≡ left_from (set struck at 1) i (x ∷ xs)
        go other (passed y) later = rw (other, y, later)
        go other (failed y) later = rw (other, y, later)

    -- of the whole list
    pub left_strike : (i : ℕ) (xs : List A) → i < length xs → i < length struck → is_left struck i ≡ true → without (left_count struck 0 i) (left_from struck 0 xs) ≡ left_from (set struck i 1) 0 xs
    left_strike i xs l b e = left_without 0 i i xs (sym (zero-add i)) l b e

    pub left_fewer : (i : ℕ) (xs : List A) → i < length xs → i < length struck → is_left struck i ≡ true → length (left_from struck 0 xs) ≡ suc (length (left_from (set struck i 1) 0 xs))
    left_fewer i xs l b e =
        length_without (left_count struck 0 i) (left_from struck 0 xs) (left_within 0 i xs l (rw zero-add e))
        ∙ ap (λ ys. suc (length ys)) (left_strike i xs l b e)

-- a function of each element
pub left_map : {A B : Type 0} (f : A → B) (struck : List ℕ) (i : ℕ) (xs : List A) → map f (left_from struck i xs) ≡ left_from struck i (map f xs)
unfolding left_from
left_map f struck i [] = refl
left_map f struck i (x ∷ xs) = go (test (is_left struck i)) (left_map f struck (i + 1) xs)
  where
    go : Test (is_left struck i) → map f (left_from struck (i + 1) xs) ≡ left_from struck (i + 1) (map f xs) → map f (left_from struck i (x ∷ xs)) ≡ left_from struck i (map f (x ∷ xs))
    go (passed y) later = rw (y, later)
    go (failed y) later = rw (y, later)
