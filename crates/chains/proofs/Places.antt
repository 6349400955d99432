-- Chained children, place by place: up to the next child, and from it on.
use Prim.Native.Nat.{ℕ, zero, suc, ◌+◌, ◌-◌, ◌≤◌, ◌<◌, compare, Ordering}
use mathlib.Core.Path.{◌≡◌, refl, sym, ap, ◌∙◌}
use mathlib.Core.Bool.{Bool, true, false, cond, ◌&&◌, ◌||◌, and-false}
use mathlib.Core.List.{List}
use native.Mathlib.Omega.{arith}
use lib.Dec.{compare_is_eq, is_le, eqb}
use lib.ListN.{get_or}
use borrow.Author.Tests.{eq-eqb, ne_eqb, eqb-true, eqb-false, leb-true, leb-false}
use Rattle.meaning.specs.declared.Word.{Word}
use Rattle.meaning.specs.declared.Decision.{Decision}
use Rattle.meaning.specs.declared.Element.{Element}
use Rattle.meaning.specs.Deciding.{by_order}
use Rattle.laws.specs.Found.{found}
use Rattle.laws.proofs.Bools.{Test, passed, failed, test}
use Rattle.laws.proofs.Found.{found_some, found_none}
use mathlib.Core.Option.{Option, none, some}
use Rattle.std.specs.Prelude.{Some, None}
use Rattle.table.specs.declared.Row.{Row}
use Rattle.table.specs.Rows.{word_at, word_number, depth_of}
use Rattle.table.specs.Tree.{next_child}
use Rattle.table.proofs.Children.{child_none, passes_struck, passes_deeper, child_here, child_behind}
use Rattle.chains.specs.Chain.{asks, gives_asked, asks_next, chained_in, chained_from}

-- false in each of three cases
no_case : (live : Bool) (o : Ordering) (x y : Bool) → (live ≡ true → x ≡ false) → y ≡ false → cond live (by_order o false x y) y ≡ false
no_case false o x y e f = f
no_case true Ordering.lt x y e f = refl
no_case true Ordering.eq x y e f = e refl
no_case true Ordering.gt x y e f = f

pub idle : (b x a : Bool) → (b && a) ≡ false → ((b && x) && a) ≡ false
idle true true a e = e
idle true false a e = refl
idle false x a e = refl

module _ (hit : Element → Bool) (d : Decision) (t : List Row) (s : List ℕ) (n : ℕ) where
  abbrev Gives : Word → Bool → ℕ → Bool
  Gives = gives_asked hit d t s n

  -- nothing is asked
  module _ (w : Word) (b : Bool) (none : (b && asks w) ≡ false) where
    gives_none : (i : ℕ) → Gives w b i ≡ false
    gives_none i = rw none

    none_here : (j i : ℕ) (below behind : Bool) → below ≡ false → behind ≡ false → ((eqb j i && Gives w b i) || (below || behind)) ≡ false
    none_here j i below behind e f = rw (ap (λ g. eqb j i && g) (gives_none i) ∙ and-false (eqb j i), e, f)

    below_none : (i : ℕ) → (Gives w b i && asks (word_at (word_number t i))) ≡ false
    below_none i = ap (λ g. g && asks (word_at (word_number t i))) (gives_none i)

  pub none_in : (w : Word) (k : ℕ) (b : Bool) (j i m : ℕ) → (b && asks w) ≡ false → chained_in hit d t s n w k b j i m ≡ false
  unfolding chained_in
  none_in w k b j i zero e = refl
  none_in w k b j i (suc m) e =
      no_case (eqb (get_or s i 0) 0) (compare (depth_of t i) k) _ _
      (λ live. none_here w b e j i _ _ (none_in (word_at (word_number t i)) (suc (depth_of t i)) (Gives w b i) j (i + 1) m (below_none w b e i)) (none_in w k (asks_next hit d t s n w b i) j (i + 1) m (idle b _ (asks w) e)))
      (none_in w k b j (i + 1) m e)

  -- element j is not among those left from place i on
  none_there : (w : Word) (k : ℕ) (b : Bool) (j i m : ℕ) → ((p : ℕ) → i ≤ p → get_or s p 0 ≡ 0 → eqb j p ≡ false) → chained_in hit d t s n w k b j i m ≡ false
  unfolding chained_in
  none_there w k b j i zero other = refl
  none_there w k b j i (suc m) other =
      let farther : (p : ℕ) → i + 1 ≤ p → get_or s p 0 ≡ 0 → eqb j p ≡ false = λ p l. other p (omega arith) in
      no_case (eqb (get_or s i 0) 0) (compare (depth_of t i) k) _ _
      (λ live. rw (
        other i (omega arith) (eqb-true (get_or s i 0) 0 live),
        none_there (word_at (word_number t i)) (suc (depth_of t i)) (Gives w b i) j (i + 1) m farther,
        none_there w k (asks_next hit d t s n w b i) j (i + 1) m farther,
      ))
      (none_there w k b j (i + 1) m farther)

  pub none_before : (w : Word) (k : ℕ) (b : Bool) (j i m : ℕ) → j < i → chained_in hit d t s n w k b j i m ≡ false
  none_before w k b j i m l = none_there w k b j i m (λ p h live. ne_eqb j p (omega arith))

  pub none_struck : (w : Word) (k : ℕ) (b : Bool) (j i m : ℕ) → (get_or s j 0 ≡ 0 → ⊥) → chained_in hit d t s n w k b j i m ≡ false
  none_struck w k b j i m flag = none_there w k b j i m (λ p h live. ne_eqb j p (λ e. flag (ap (λ q. get_or s q 0) e ∙ live)))

  module _ (w : Word) (k : ℕ) (b : Bool) (j : ℕ) where
    -- a child at place i, with those behind it
    abbrev pub at_child : ℕ → Bool
    at_child i =
        (eqb j i && Gives w b i)
        || (chained_from hit d t s n (word_at (word_number t i)) (suc (depth_of t i)) (Gives w b i) j (i + 1) || chained_from hit d t s n w k (asks_next hit d t s n w b i) j (i + 1))

    -- from a child on that was found, or from the end
    abbrev from_child : Option ℕ → Bool
    from_child none = false
    from_child (some i) = at_child i

    module _ (i : ℕ) (l : i < n) where
      one_more : n - i ≡ suc (n - (i + 1))
      one_more = omega arith

      struck_one : (get_or s i 0 ≡ 0 → ⊥) → chained_from hit d t s n w k b j i ≡ chained_from hit d t s n w k b j (i + 1)
      unfolding chained_in
      struck_one flag = rw (one_more, ne_eqb (get_or s i 0) 0 flag)

      live_one : get_or s i 0 ≡ 0 → (o : Ordering) → compare (depth_of t i) k ≡ o → chained_from hit d t s n w k b j i ≡ by_order o false (at_child i) (chained_from hit d t s n w k b j (i + 1))
      unfolding chained_in
      live_one live o c = rw (one_more, eq-eqb (get_or s i 0) 0 live, c)

    next_first : (m i : ℕ) → i + m ≡ n → chained_from hit d t s n w k b j i ≡ from_child (next_child t s n k i)
    unfolding chained_in
    next_first zero i e = let z : n - i ≡ 0 = omega arith in rw (z, child_none t s n i k (omega arith))
    next_first (suc m) i e = go (test (eqb (get_or s i 0) 0)) (compare (depth_of t i) k) refl (next_first m (i + 1) (omega arith))
      where
        l : i < n
        l = omega arith

        go : Test (eqb (get_or s i 0) 0) → (o : Ordering) → compare (depth_of t i) k ≡ o → chained_from hit d t s n w k b j (i + 1) ≡ from_child (next_child t s n k (i + 1)) → chained_from hit d t s n w k b j i ≡ from_child (next_child t s n k i)
        go (failed x) o c later = let flag = eqb-false (get_or s i 0) 0 x in struck_one i l flag ∙ later ∙ sym (ap from_child (passes_struck t s n i k l flag))
        go (passed x) Ordering.lt c later =
            let live = eqb-true (get_or s i 0) 0 x in
            let unlike : (depth_of t i ≡ k → ⊥) = eqb-false (depth_of t i) k (ap compare_is_eq c) in
            let over-it : depth_of t i < k = omega (arith, leb-true (depth_of t i) k (ap is_le c)) in
            live_one i l live Ordering.lt c ∙ sym (ap from_child (child_behind t s n i k l live over-it))
        go (passed x) Ordering.eq c later =
            let live = eqb-true (get_or s i 0) 0 x in
            live_one i l live Ordering.eq c ∙ sym (ap from_child (child_here t s n i k l live (eqb-true (depth_of t i) k (ap compare_is_eq c))))
        go (passed x) Ordering.gt c later =
            let live = eqb-true (get_or s i 0) 0 x in
            live_one i l live Ordering.gt c ∙ later ∙ sym (ap from_child (passes_deeper t s n i k l (leb-false (depth_of t i) k (ap is_le c))))

    -- the next child from place i on, which was looked for
    module _ (i : ℕ) (l : i ≤ n) where
      pub no_child : None ≡ found (next_child t s n k i) → chained_from hit d t s n w k b j i ≡ false
      no_child e = next_first (n - i) i (omega arith) ∙ ap from_child (found_none (next_child t s n k i) (sym e))

      pub one_child : (r : ℕ) → Some r ≡ found (next_child t s n k i) → chained_from hit d t s n w k b j i ≡ at_child r
      one_child r e = next_first (n - i) i (omega arith) ∙ ap from_child (found_some (next_child t s n k i) (sym e))
