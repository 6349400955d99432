-- The sizes of segments, counted request by request at the first request of each.
use Prim.Native.Nat.{ℕ, zero, suc, ◌+◌, ◌≤◌, ◌<◌, zero-le}
use mathlib.Core.Path.{◌≡◌, refl, sym, ap, ap₂, subst, ◌∙◌}
use mathlib.Core.Bool.{Bool, true, false, cond}
use mathlib.Core.List.{List, ◌++◌, map}
use mathlib.Core.Option.{Option, none, some}
use native.Mathlib.Nat.{zero-add, add-zero}
use native.Mathlib.Numerals.{add-one}
use native.Mathlib.Omega.{arith}
use borrow.Author.Count.{below_more}
use borrow.Author.Tests.{eqb-true, eqb-false, eq-eqb, ne_eqb}
use lib.Dec.{eqb}
use lib.ListN.{length, take, drop, get_or, set, length-set, take-append-drop}
use lib.Seq.{length-take-le, get_or-take, get_or-set_same, get_or-set_other, drop-set-lt, drop-drop, ext_get_or}
use Rattle.meaning.specs.Text.{is_none, keep, counting, first_from}
use Rattle.laws.proofs.Bools.{Test, passed, failed, test, contradiction, eqb_same}
use Rattle.laws.proofs.Search.{First, first_some, first_none, first_is, counting_only, keep_none, some_some}
use Rattle.table.specs.Tree.{place_or}
use Rattle.outcomes.proofs.Laying.{length_counted, counted_at}
use Rattle.rows.proofs.Making.{eqb_swap}
use Rattle.segments.specs.Sizes.{alike, size_at}

-- How many numbers pass a test: one number more, and no more than there are
module _ (p : ℕ → Bool) where
  keep_more : (i k : ℕ) → length (keep p (counting i (suc k))) ≡ length (keep p (counting i k)) + cond (p (i + k)) 1 0
  keep_more i zero = go (test (p i))
    where
      go : Test (p i) → length (keep p (counting i 1)) ≡ 0 + cond (p (i + 0)) 1 0
      go (passed e) = rw (add-zero i, e)
      go (failed e) = rw (add-zero i, e)
  keep_more i (suc k) = go (test (p i)) (keep_more (suc i) k)
    where
      at : i + suc k ≡ suc i + k
      at = omega arith

      go : Test (p i) → length (keep p (counting (suc i) (suc k))) ≡ length (keep p (counting (suc i) k)) + cond (p (suc i + k)) 1 0 → length (keep p (counting i (suc (suc k)))) ≡ length (keep p (counting i (suc k))) + cond (p (i + suc k)) 1 0
      go (passed e) later = rw (at, e) (omega arith)
      go (failed e) later = rw (at, e) later

  keep_most : (i k : ℕ) → length (keep p (counting i k)) ≤ k
  keep_most i zero = zero-le
  keep_most i (suc k) = go (test (p i)) (keep_most (suc i) k)
    where
      go : Test (p i) → length (keep p (counting (suc i) k)) ≤ k → length (keep p (counting i (suc k))) ≤ suc k
      go (passed e) later = rw e (omega arith)
      go (failed e) later = rw e (omega arith)

-- the size of the segment that k opens, by a test for its word: one request more adds one if k is its first
abbrev Adds : (m first k : ℕ) → (ℕ → Bool) → Type 0
Adds m first k t =
    cond (is_none (first_from t 0 k)) (length (keep t (counting 0 m)) + cond (t m) 1 0) 0 ≡ cond (is_none (first_from t 0 k)) (length (keep t (counting 0 m))) 0 + cond (eqb k first) 1 0

-- Request m, and the first request that has its word
module _ (ws : List ℕ) (m : ℕ) where
  pub first_of : (first : ℕ) → first ≡ place_or m (first_from (alike ws m) 0 m) → First (alike ws m) 0 (suc m) first
  first_of first is = rw is (go (first_from (alike ws m) 0 m) refl)
    where
      go : (o : Option ℕ) → first_from (alike ws m) 0 m ≡ o → First (alike ws m) 0 (suc m) (place_or m (first_from (alike ws m) 0 m))
      go none e = rw e record { low = zero-le; high = omega arith; holds = eqb_same (get_or ws m 0); no_earlier = λ k l u. first_none (alike ws m) 0 m e k l (omega arith) }
      go (some k) e = let i = first_some (alike ws m) 0 m k e in rw e record { low = zero-le; high = omega (arith, i.high); holds = i.holds; no_earlier = i.no_earlier }

  -- before it is counted, no request before it has its word, or its segment opens earlier
  size_none : size_at ws m m ≡ 0
  unfolding size_at
  size_none = go (first_from (alike ws m) 0 m) refl
    where
      go : (o : Option ℕ) → first_from (alike ws m) 0 m ≡ o → cond (is_none (first_from (alike ws m) 0 m)) (length (keep (alike ws m) (counting 0 m))) 0 ≡ 0
      go none e = rw (e, keep_none (alike ws m) (counting 0 m) (λ k i. first_none (alike ws m) 0 m e k zero-le (counting_only 0 m k i).1))
      go (some k) e = rw e

  size_most : (k : ℕ) → size_at ws m k ≤ m
  unfolding size_at
  size_most k = go (is_none (first_from (alike ws k) 0 k))
    where
      go : (b : Bool) → cond b (length (keep (alike ws k) (counting 0 m))) 0 ≤ m
      go true = keep_most (alike ws k) 0 m
      go false = zero-le

  -- counted, it adds one to the segment of its first request
  size_next : (first : ℕ) → First (alike ws m) 0 (suc m) first → (k : ℕ) → k < m + 1 → size_at ws (m + 1) k ≡ size_at ws m k + cond (eqb k first) 1 0
  unfolding size_at
  size_next first is k l = rw (add-one m, keep_more (alike ws k) 0 m, zero-add m) (go (test (alike ws m k)))
    where
      opens : (o : Option ℕ) → first_from (alike ws m) 0 k ≡ o → alike ws m k ≡ true → Adds m first k (alike ws m)
      opens none e same =
          let here : First (alike ws m) 0 (suc m) k = record { low = zero-le; high = omega arith; holds = same; no_earlier = λ j low high. first_none (alike ws m) 0 k e j low (omega arith) } in
          let at : k ≡ first = some_some (sym (first_is (alike ws m) 0 (suc m) k here) ∙ first_is (alike ws m) 0 (suc m) first is) in
          rw (e, eqb_same (get_or ws m 0), eq-eqb k first at)
      opens (some j) e same =
          let earlier = first_some (alike ws m) 0 k j e in
          let other : eqb k first ≡ false = ne_eqb k first (λ at. contradiction earlier.holds (is.no_earlier j zero-le (omega (arith, earlier.high)))) in
          rw (e, other)

      go : Test (alike ws m k) → Adds m first k (alike ws k)
      go (passed e) = subst (Adds m first k) (ap (λ word j. eqb (get_or ws j 0) word) (sym (eqb-true _ _ e))) (opens (first_from (alike ws m) 0 k) refl e)
      go (failed e) =
          let other : eqb k first ≡ false = ne_eqb k first (λ at. contradiction (rw (← at) at is.holds) e) in
          rw (eqb_swap (get_or ws m 0) (get_or ws k 0) ∙ e, other, add-zero, add-zero)

-- After m requests, `d` has the sizes of their segments over `old`
pub record Sized (ws old d : List ℕ) (m : ℕ) : Type 0 where
  pub size : length d ≡ length old
  pub counted : (k : ℕ) → k < m → get_or d k 0 ≡ size_at ws m k
  pub behind : drop m d ≡ drop m old

pub sized_none : (ws old : List ℕ) → Sized ws old old 0
sized_none ws old = record { size = refl; counted = λ k l. absurd (omega arith); behind = refl }

module _ {ws old d : List ℕ} {m : ℕ} (so_far : Sized ws old d m) (room : m < length old) (first : ℕ) (is : First (alike ws m) 0 (suc m) first) where
  zeroed : (k : ℕ) → k < m + 1 → get_or (set d m 0) k 0 ≡ size_at ws m k
  zeroed =
      below_more _ m
      (λ k l. get_or-set_other d m k 0 0 (omega arith) ∙ so_far.counted k l)
      (get_or-set_same d m 0 0 (omega (arith, so_far.size)) ∙ sym (size_none ws m))

  pub counted_most : get_or (set d m 0) first 0 ≤ m
  counted_most = rw (zeroed first (omega (arith, is.high))) (size_most ws m first)

  pub sized_next : Sized ws old (set (set d m 0) first (get_or (set d m 0) first 0 + 1)) (m + 1)
  sized_next =
      let inside : first < length (set d m 0) = omega (arith, length-set d m 0, so_far.size, is.high) in
      record {
        size = rw (length-set, length-set) so_far.size;
        counted = λ k l. one k l (test (eqb k first)) inside;
        behind = drop-set-lt (m + 1) _ first _ (omega (arith, is.high)) ∙ drop-set-lt (m + 1) d m 0 (omega arith) ∙ sym (drop-drop 1 m d) ∙ ap (drop 1) so_far.behind ∙ drop-drop 1 m old;
      }
    where
      one : (k : ℕ) → k < m + 1 → Test (eqb k first) → first < length (set d m 0) → get_or (set (set d m 0) first (get_or (set d m 0) first 0 + 1)) k 0 ≡ size_at ws (m + 1) k
      one k l (passed e) inside =
          rw (size_next ws m first is k l, e, eqb-true k first e)
          (get_or-set_same (set d m 0) first _ 0 inside ∙ ap (λ s. s + 1) (zeroed first (omega (arith, is.high))))
      one k l (failed e) inside =
          rw (size_next ws m first is k l, e, add-zero)
          (get_or-set_other (set d m 0) first k _ 0 (eqb-false k first e) ∙ zeroed k l)

-- all of them counted
pub sized_all : {ws old d : List ℕ} {m : ℕ} (n : ℕ) → n ≤ length old → m ≡ n → Sized ws old d m → d ≡ map (size_at ws n) (counting 0 n) ++ drop n old
sized_all {ws} {old} {d} {m} n room end so_far =
    let whole : Sized ws old d n = rw end at so_far in
    let short : length (take n d) ≡ n = length-take-le n d (omega (arith, whole.size)) in
    let sizes : take n d ≡ map (size_at ws n) (counting 0 n) =
    ext_get_or 0 (take n d) (map (size_at ws n) (counting 0 n)) (short ∙ sym (length_counted (size_at ws n) 0 n))
    (λ k l. let below : k < n = omega arith in get_or-take n d k 0 below ∙ whole.counted k below ∙ sym (rw zero-add at (counted_at (size_at ws n) 0 0 n k below))) in
    sym (take-append-drop n d) ∙ ap₂ ◌++◌ sizes whole.behind
