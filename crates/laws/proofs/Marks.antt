-- Target fields by marks: the masks that reading and writing know.
use mathlib.Core.Path.{◌≡◌, refl, sym, ap, ◌∙◌}
use mathlib.Core.Logic.{◌≢◌, ◌⊎◌, inl, inr}
use Prim.Native.Nat.{ℕ, suc, ◌+◌, ◌*◌, ◌/◌, ◌%◌, ◌^◌, ◌≤◌, ◌<◌}
use native.Mathlib.Omega.{arith}
use native.Mathlib.Nat.{pow-succ'}
use mathlib.Core.Bool.{Bool, true, false, cond}
use mathlib.Core.List.{List, [], ◌∷◌, Memᴰ}
use lib.ListN.{length}
use lib.Dec.{eqb}
use lib.Pow.{pow_pos}
use borrow.Author.Tests.{eq-eqb, ne_eqb, eqb-true, eqb-false}
use Rattle.meaning.specs.Text.{Bytes, bytes, join, comma}
use Rattle.meaning.specs.Model.{full}
use Rattle.meaning.specs.Writing.{value_names, target_text}
use Rattle.meaning.specs.Claims.Texts.{All}
use Rattle.meaning.specs.Claims.PolicyFile.{marks_mask, marked_of, Target}
use Rattle.laws.proofs.Bools.{Test, passed, failed, test}

-- A mask's marks
abbrev pub marks_of : List Bytes → ℕ → List Bool
marks_of [] m = []
marks_of (v ∷ vs) m = eqb (m % 2) 1 ∷ marks_of vs (m / 2)

marks_count : (vs : List Bytes) (m : ℕ) → length (marks_of vs m) ≡ length vs
marks_count [] m = refl
marks_count (v ∷ vs) m = ap suc (marks_count vs (m / 2))

pub marks_mask_lem : (vs : List Bytes) (m : ℕ) → m < 2 ^ length vs → m ≡ marks_mask (marks_of vs m)
marks_mask_lem [] m l = omega arith
marks_mask_lem (v ∷ vs) m l = go (test (eqb (m % 2) 1)) (marks_mask_lem vs (m / 2) (halved (rw (pow-succ' 2 (length vs)) at l)))
  where
    halved : m < 2 * 2 ^ length vs → m / 2 < 2 ^ length vs
    halved h = omega arith

    go : Test (eqb (m % 2) 1) → m / 2 ≡ marks_mask (marks_of vs (m / 2)) → m ≡ cond (eqb (m % 2) 1) 1 0 + 2 * marks_mask (marks_of vs (m / 2))
    go (passed e) h = let odd = eqb-true (m % 2) 1 e in rw (e, ← h) (omega arith)
    go (failed e) h = let even : m % 2 ≢ 1 = eqb-false (m % 2) 1 e in rw (e, ← h) (omega arith)

marks_names : (vs : List Bytes) (m : ℕ) → value_names vs m ≡ marked_of (marks_of vs m) vs
marks_names [] m = refl
marks_names (v ∷ vs) m = ap (λ ns. cond (eqb (m % 2) 1) (v ∷ ns) ns) (marks_names vs (m / 2))

-- and back: the names of the mask of some marks
mask_names : (bs : List Bool) (vs : List Bytes) → length bs ≡ length vs → value_names vs (marks_mask bs) ≡ marked_of bs vs
mask_names [] [] e = refl
mask_names [] (v ∷ vs) e = absurd (omega (arith, e))
mask_names (b ∷ bs) [] e = absurd (omega (arith, e))
mask_names (true ∷ bs) (v ∷ vs) e =
    let odd : (1 + 2 * marks_mask bs) % 2 ≡ 1 = omega arith in
    let half : (1 + 2 * marks_mask bs) / 2 ≡ marks_mask bs = omega arith in
    rw (eq-eqb ((1 + 2 * marks_mask bs) % 2) 1 odd, half, mask_names bs vs (omega (arith, e)))
mask_names (false ∷ bs) (v ∷ vs) e =
    let even : (0 + 2 * marks_mask bs) % 2 ≢ 1 = omega arith in
    let half : (0 + 2 * marks_mask bs) / 2 ≡ marks_mask bs = omega arith in
    rw (ne_eqb ((0 + 2 * marks_mask bs) % 2) 1 even, half, mask_names bs vs (omega (arith, e)))

-- All marked, or one is not; one is marked, or none is
abbrev Marked : List Bool → Type 0
Marked bs = All (λ b. b ≡ true) bs

all_or_not : (bs : List Bool) → Marked bs ⊎ Memᴰ false bs
all_or_not [] = inl tt
all_or_not (false ∷ bs) = inr (Memᴰ.head refl)
all_or_not (true ∷ bs) = go (all_or_not bs)
  where
    go : Marked bs ⊎ Memᴰ false bs → Marked (true ∷ bs) ⊎ Memᴰ false (true ∷ bs)
    go (inl a) = inl (refl, a)
    go (inr m) = inr (Memᴰ.tail m)

some_or_none : (bs : List Bool) → Memᴰ true bs ⊎ (marks_mask bs ≡ 0)
some_or_none [] = inr refl
some_or_none (true ∷ bs) = inl (Memᴰ.head refl)
some_or_none (false ∷ bs) = go (some_or_none bs)
  where
    go : Memᴰ true bs ⊎ (marks_mask bs ≡ 0) → Memᴰ true (false ∷ bs) ⊎ (0 + 2 * marks_mask bs ≡ 0)
    go (inl m) = inl (Memᴰ.tail m)
    go (inr e) = inr (omega arith)

-- their masks
mask_below : (bs : List Bool) → marks_mask bs < 2 ^ length bs
mask_below [] = omega arith
mask_below (true ∷ bs) = rw (pow-succ' 2 (length bs)) (omega (arith, mask_below bs))
mask_below (false ∷ bs) = rw (pow-succ' 2 (length bs)) (omega (arith, mask_below bs))

pub mask_full : (bs : List Bool) → Marked bs → suc (marks_mask bs) ≡ 2 ^ length bs
mask_full [] a = refl
mask_full (b ∷ bs) a = rw (a.0, pow-succ' 2 (length bs)) (omega (arith, mask_full bs a.1))

mask_not_full : {bs : List Bool} → Memᴰ false bs → suc (marks_mask bs) < 2 ^ length bs
mask_not_full (Memᴰ.head {x = b} {xs = bs} e) = rw (← e, pow-succ' 2 (length bs)) (omega (arith, mask_below bs))
mask_not_full (Memᴰ.tail {x = true} {xs = bs} m) = rw (pow-succ' 2 (length bs)) (omega (arith, mask_not_full m))
mask_not_full (Memᴰ.tail {x = false} {xs = bs} m) = rw (pow-succ' 2 (length bs)) (omega (arith, mask_not_full m))

mask_positive : {bs : List Bool} → Memᴰ true bs → 0 < marks_mask bs
mask_positive (Memᴰ.head {x = b} {xs = bs} e) = rw (← e) (omega arith)
mask_positive (Memᴰ.tail {x = b} {xs = bs} m) = omega (arith, mask_positive m)

-- A mask that is not empty and has no bit too high is that of its target field, and a target field has such a mask
pub target_of_lem : (vs : List Bytes) (m : ℕ) → 0 < m → m ≤ full vs → Target vs (target_text vs m) m
target_of_lem vs m p l =
    let bs = marks_of vs m in
    let is = marks_mask_lem vs m (omega (arith, pow_pos (length vs))) in
    record { marks = bs; one_each = marks_count vs m; is_mask = is; is_field = go bs (marks_count vs m) is (marks_names vs m) (all_or_not bs) (some_or_none bs) }
  where
    go : (bs : List Bool) → length bs ≡ length vs → m ≡ marks_mask bs → value_names vs m ≡ marked_of bs vs → Marked bs ⊎ Memᴰ false bs → Memᴰ true bs ⊎ (marks_mask bs ≡ 0)
        → (Marked bs × (target_text vs m ≡ bytes "*")) ⊎ (Memᴰ true bs × Memᴰ false bs × (target_text vs m ≡ join comma (marked_of bs vs)))
    go bs c e n (inl a) s = inl (a, rw (eq-eqb m (full vs) (omega (arith, mask_full bs a, ap (λ k. 2 ^ k) c))))
    go bs c e n (inr f) (inr z) = absurd (omega arith)
    go bs c e n (inr f) (inl t) =
        let other : m ≢ full vs = omega (arith, mask_not_full f, ap (λ k. 2 ^ k) c) in
        inr (t, f, rw (ne_eqb m (full vs) other, n))

pub record OfTarget (vs : List Bytes) (t : Bytes) (m : ℕ) : Type 0 where
  pub is_text : t ≡ target_text vs m
  pub not_empty : 0 < m
  pub no_high_bit : m ≤ full vs

pub of_target : (vs : List Bytes) (t : Bytes) (m : ℕ) → 1 ≤ length vs → Target vs t m → OfTarget vs t m
of_target vs t m some x = go x.marks x.one_each x.is_mask x.is_field
  where
    go : (bs : List Bool) → length bs ≡ length vs → m ≡ marks_mask bs → (Marked bs × (t ≡ bytes "*")) ⊎ (Memᴰ true bs × Memᴰ false bs × (t ≡ join comma (marked_of bs vs))) → OfTarget vs t m
    go [] c e f = absurd (omega (arith, c))
    go (b ∷ bs) c e (inl (a, f)) =
        let size = ap (λ k. 2 ^ k) c in
        let whole = mask_full (b ∷ bs) a in
        record {
          is_text = f ∙ rw (eq-eqb m (full vs) (omega (arith, whole, size, e)));
          not_empty = omega (arith, e, mask_positive (Memᴰ.head {x = b} {xs = bs} (sym a.0)));
          no_high_bit = omega (arith, whole, size, e);
        }
    go (b ∷ bs) c e (inr (k, l, f)) =
        let size = ap (λ k. 2 ^ k) c in
        let less = mask_not_full l in
        let other : m ≢ full vs = omega (arith, less, size, e) in
        record {
          is_text = f ∙ rw (ne_eqb m (full vs) other, e, mask_names (b ∷ bs) vs c);
          not_empty = omega (arith, e, mask_positive k);
          no_high_bit = omega (arith, less, size, e);
        }
