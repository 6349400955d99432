-- The children among the elements that are left of the table, from a place on.
use Prim.Native.Nat.{ℕ, zero, suc, ◌+◌, ◌-◌, ◌≤◌, ◌<◌, compare, Ordering}
use mathlib.Core.Path.{◌≡◌, refl, sym, ap, ◌∙◌}
use mathlib.Core.Bool.{Bool, true, false}
use mathlib.Core.List.{List, [], ◌∷◌}
use mathlib.Core.Option.{Option, none, some}
use Rattle.std.specs.Prelude.{Some, None}
use native.Mathlib.Omega.{arith}
use lib.Dec.{compare_is_eq, is_le, eqb}
use lib.ListN.{get_or}
use borrow.Author.Tests.{eqb-true, eqb-false, leb-true, leb-false}
use Rattle.meaning.specs.declared.Word.{Word}
use Rattle.meaning.specs.declared.Word.TheVariants.{Permit, Deny, DenyOverrides, PermitOverrides, FirstApplicable, OnlyOneApplicable}
use Rattle.meaning.specs.declared.Element.{Element}
use Rattle.meaning.specs.Deciding.{Reply as ChildReply, combined, child_replies, first_decision}
use Rattle.laws.specs.Found.{found}
use Rattle.laws.proofs.Bools.{Test, passed, failed, test}
use Rattle.laws.proofs.Found.{found_some, found_none}
use Rattle.table.specs.declared.Row.{Row}
use Rattle.table.specs.Rows.{word_at, algorithm_at, algorithm_of, depth_of, element_at, word_number}
use Rattle.table.specs.Tree.{left, next_child}
use Rattle.table.proofs.Children.{left_struck, left_here, child_none, passes_struck, passes_deeper, child_here, child_behind}
use Rattle.decisions.specs.Replies.{step_of, replies_from, reply_at}
use Rattle.decisions.proofs.Combining.{start, neutral_next, fold_step}

-- how two numbers compare
module _ (m n : ℕ) where
  pub below : m < n → compare m n ≡ Ordering.lt
  below l = go (compare m n) refl
    where
      go : (o : Ordering) → compare m n ≡ o → o ≡ Ordering.lt
      go Ordering.lt e = refl
      go Ordering.eq e = let same : m ≡ n = eqb-true m n (ap compare_is_eq e) in let no : ⊥ = omega arith in absurd no
      go Ordering.gt e = let over : n < m = leb-false m n (ap is_le e) in let no : ⊥ = omega arith in absurd no

  same : m ≡ n → compare m n ≡ Ordering.eq
  same l = go (compare m n) refl
    where
      go : (o : Ordering) → compare m n ≡ o → o ≡ Ordering.eq
      go Ordering.lt e = absurd (eqb-false m n (ap compare_is_eq e) l)
      go Ordering.eq e = refl
      go Ordering.gt e = absurd (eqb-false m n (ap compare_is_eq e) l)

  pub over : n < m → compare m n ≡ Ordering.gt
  over l = go (compare m n) refl
    where
      go : (o : Ordering) → compare m n ≡ o → o ≡ Ordering.gt
      go Ordering.lt e = let le : m ≤ n = leb-true m n (ap is_le e) in let no : ⊥ = omega arith in absurd no
      go Ordering.eq e = let le : m ≤ n = leb-true m n (ap is_le e) in let no : ⊥ = omega arith in absurd no
      go Ordering.gt e = refl

-- What element i gives, by the test of its own target
module _ (hit : Element → Bool) (t : List Row) (s : List ℕ) (n i : ℕ) where
  pub reply_off : hit (element_at t i) ≡ false → reply_at hit t s n i ≡ start
  unfolding reply_at
  reply_off e = rw e

  pub reply_on : hit (element_at t i) ≡ true
      → reply_at hit t s n i ≡ record { matched = true; decision = combined (word_at (word_number t i)) (replies_from hit t s n (suc (depth_of t i)) (i + 1)) }
  unfolding reply_at element_at
  reply_on e = rw e

-- What the children of depth d give, of n places
module _ (hit : Element → Bool) (t : List Row) (s : List ℕ) (n d : ℕ) where
  -- from a child on that was found, or from the end
  abbrev from_child : Option ℕ → List ChildReply
  from_child none = []
  from_child (some i) = reply_at hit t s n i ∷ replies_from hit t s n d (i + 1)

  pub children_none : (i : ℕ) → n ≤ i → replies_from hit t s n d i ≡ []
  unfolding replies_from left
  children_none i l = let z : n - i ≡ 0 = omega arith in rw z

  module _ (i : ℕ) (l : i < n) where
    struck_one : (get_or s i 0 ≡ 0 → ⊥) → replies_from hit t s n d i ≡ replies_from hit t s n d (i + 1)
    unfolding replies_from
    struck_one flag = ap (child_replies hit d) (left_struck t s n i l flag)

    module _ (live : get_or s i 0 ≡ 0) where
      behind_all : depth_of t i < d → replies_from hit t s n d i ≡ []
      unfolding replies_from element_at
      behind_all h = rw (left_here t s n i l live, below (depth_of t i) d h)

      deeper_one : d < depth_of t i → replies_from hit t s n d i ≡ replies_from hit t s n d (i + 1)
      unfolding replies_from element_at
      deeper_one h = rw (left_here t s n i l live, over (depth_of t i) d h)

      child_one : depth_of t i ≡ d → replies_from hit t s n d i ≡ reply_at hit t s n i ∷ replies_from hit t s n d (i + 1)
      unfolding replies_from element_at reply_at
      child_one h = rw (left_here t s n i l live, same (depth_of t i) d h, h)

  -- the next child is the first of them
  next_first : (k i : ℕ) → i + k ≡ n → replies_from hit t s n d i ≡ from_child (next_child t s n d i)
  next_first zero i e = children_none i (omega arith) ∙ sym (ap from_child (child_none t s n i d (omega arith)))
  next_first (suc k) i e = go (test (eqb (get_or s i 0) 0)) (compare (depth_of t i) d) refl (next_first k (i + 1) (omega arith))
    where
      l : i < n
      l = omega arith

      go : Test (eqb (get_or s i 0) 0) → (o : Ordering) → compare (depth_of t i) d ≡ o → replies_from hit t s n d (i + 1) ≡ from_child (next_child t s n d (i + 1)) → replies_from hit t s n d i ≡ from_child (next_child t s n d i)
      go (failed x) o c later = let flag = eqb-false (get_or s i 0) 0 x in struck_one i l flag ∙ later ∙ sym (ap from_child (passes_struck t s n i d l flag))
      go (passed x) Ordering.lt c later =
          let live = eqb-true (get_or s i 0) 0 x in
          let unlike : (depth_of t i ≡ d → ⊥) = eqb-false (depth_of t i) d (ap compare_is_eq c) in
          let over-it : depth_of t i < d = omega (arith, leb-true (depth_of t i) d (ap is_le c)) in
          behind_all i l live over-it ∙ sym (ap from_child (child_behind t s n i d l live over-it))
      go (passed x) Ordering.eq c later =
          let live = eqb-true (get_or s i 0) 0 x in
          let child = eqb-true (depth_of t i) d (ap compare_is_eq c) in
          child_one i l live child ∙ sym (ap from_child (child_here t s n i d l live child))
      go (passed x) Ordering.gt c later =
          let live = eqb-true (get_or s i 0) 0 x in
          let deep = leb-false (depth_of t i) d (ap is_le c) in
          deeper_one i l live deep ∙ later ∙ sym (ap from_child (passes_deeper t s n i d l deep))

  -- the next child from place i on is none
  pub children_end : (i : ℕ) → i ≤ n → None ≡ found (next_child t s n d i) → replies_from hit t s n d i ≡ []
  children_end i l is = next_first (n - i) i (omega arith) ∙ ap from_child (found_none (next_child t s n d i) (sym is))

  -- or it is r
  module _ (i r : ℕ) (l : i ≤ n) (is : Some r ≡ found (next_child t s n d i)) where
    module _ (a : ℕ) (so : ChildReply) where
      with_child : combined (algorithm_at a) (so ∷ replies_from hit t s n d i) ≡ combined (algorithm_at a) (so ∷ reply_at hit t s n r ∷ replies_from hit t s n d (r + 1))
      with_child = ap (λ cs. combined (algorithm_at a) (so ∷ cs)) (next_first (n - i) i (omega arith) ∙ ap from_child (found_some (next_child t s n d i) (sym is)))

      -- it does not match: it may be left out
      child_off : hit (element_at t r) ≡ false → combined (algorithm_at a) (so ∷ replies_from hit t s n d i) ≡ combined (algorithm_at a) (so ∷ replies_from hit t s n d (r + 1))
      child_off off =
          with_child
          ∙ ap (λ c. combined (algorithm_at a) (so ∷ c ∷ replies_from hit t s n d (r + 1))) (reply_off hit t s n r off)
          ∙ sym (neutral_next a so (replies_from hit t s n d (r + 1)))

      -- what follows it is combined from there
      pub child_step : (child next : ChildReply) → child ≡ reply_at hit t s n r → next ≡ step_of (algorithm_at a) so child
          → combined (algorithm_at a) (so ∷ replies_from hit t s n d i) ≡ combined (algorithm_at a) (next ∷ replies_from hit t s n d (r + 1))
      child_step child next decided stepped =
          with_child
          ∙ ap (λ c. combined (algorithm_at a) (so ∷ c ∷ replies_from hit t s n d (r + 1))) (sym decided)
          ∙ sym (fold_step a so child (replies_from hit t s n d (r + 1)))
          ∙ ap (λ c. combined (algorithm_at a) (c ∷ replies_from hit t s n d (r + 1))) (sym stepped)

-- The same, one element after the other: element i, which is struck, or is not and has the depth r
module _ (hit : Element → Bool) (t : List Row) (s : List ℕ) (n d i : ℕ) (l : i < n) where
  pub replies_struck : (get_or s i 0 ≡ 0 → ⊥) → replies_from hit t s n d i ≡ replies_from hit t s n d (i + 1)
  replies_struck = struck_one hit t s n d i l

  module _ (r : ℕ) (live : get_or s i 0 ≡ 0) (is : r ≡ depth_of t i) where
    pub replies_over : r < d → replies_from hit t s n d i ≡ []
    replies_over h = behind_all hit t s n d i l live (omega (arith, is))

    pub replies_deeper : d < r → replies_from hit t s n d i ≡ replies_from hit t s n d (i + 1)
    replies_deeper h = deeper_one hit t s n d i l live (omega (arith, is))

    module _ (a : ℕ) (so : ChildReply) (h : r ≡ d) where
      itself : Some i ≡ found (next_child t s n d i)
      itself = sym (ap found (child_here t s n i d l live (sym is ∙ h)))

      pub replies_off : hit (element_at t i) ≡ false → combined (algorithm_at a) (so ∷ replies_from hit t s n d i) ≡ combined (algorithm_at a) (so ∷ replies_from hit t s n d (i + 1))
      replies_off = child_off hit t s n d i i (omega arith) itself a so

      pub replies_step : (child next : ChildReply) → child ≡ reply_at hit t s n i → next ≡ step_of (algorithm_at a) so child
          → combined (algorithm_at a) (so ∷ replies_from hit t s n d i) ≡ combined (algorithm_at a) (next ∷ replies_from hit t s n d (i + 1))
      replies_step = child_step hit t s n d i i (omega arith) itself a so

-- an algorithm is its word
pub algorithm_word : (w : Word) → (w ≡ Permit → ⊥) → (w ≡ Deny → ⊥) → algorithm_of w ≡ w
algorithm_word Permit permit deny = absurd (permit refl)
algorithm_word Deny permit deny = absurd (deny refl)
algorithm_word DenyOverrides permit deny = refl
algorithm_word PermitOverrides permit deny = refl
algorithm_word FirstApplicable permit deny = refl
algorithm_word OnlyOneApplicable permit deny = refl

-- The first element that is left from place i on
pub first_left : (hit : Element → Bool) (t : List Row) (s : List ℕ) (n i : ℕ) → i < n → get_or s i 0 ≡ 0 → first_decision hit (left t s i (n - i)) ≡ (reply_at hit t s n i).decision
unfolding reply_at replies_from element_at
first_left hit t s n i l live = rw (left_here t s n i l live)
