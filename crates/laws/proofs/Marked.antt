-- An element below another is marked if that one is and the walk of its children marks it; a child in that walk is marked if it
-- was asked and gave the decision.
use mathlib.Core.Path.{◌≡◌, refl, sym, ap, ap₂, ◌∙◌, subst}
use Prim.Native.Nat.{ℕ, zero, suc, ◌+◌, ◌≤◌, ◌<◌, compare, Ordering}
use native.Mathlib.Omega.{arith}
use mathlib.Core.Bool.{Bool, true, false, cond, ◌&&◌, ◌||◌}
use mathlib.Core.List.{List, [], ◌∷◌, map}
use lib.ListN.{length, get_or, drop}
use lib.Dec.{ltb, compare_is_eq, is_le}
use borrow.Author.Tests.{eqb-true, leb-false, ltb-true, lt-ltb, le-ltb}
use Rattle.meaning.specs.Deciding.{is, reply, child_replies, first_decision, asked, is_next}
use Rattle.meaning.specs.Segments.{depth_at}
use Rattle.laws.proofs.Types.{Word, Decision, Element}
use Rattle.laws.proofs.Bools.{Test, passed, failed, test, contradiction, and_true, or_none_lem}
use Rattle.laws.proofs.Children.{Walk, at_end, ended, met, below}
use Rattle.laws.proofs.Chains.{nones, either, chain_from, Inner, in_none, in_deeper, Outer, out_end, out_any, out_deeper, chain_inner, chain_outer}

-- The elements up to place m are deeper than k
abbrev pub deeper : ℕ → ℕ → List Element → Bool
deeper k m [] = false
deeper k zero (e ∷ es) = ltb k e.depth
deeper k (suc m) (e ∷ es) = ltb k e.depth && deeper k m es

deeper_less : (k c m : ℕ) (es : List Element) → k ≤ c → deeper c m es ≡ true → deeper k m es ≡ true
deeper_less k c m [] l h = h
deeper_less k c zero (e ∷ es) l h = lt-ltb k e.depth (omega (arith, ltb-true c e.depth h))
deeper_less k c (suc m) (e ∷ es) l h =
    let (a, b) = and_true (ltb c e.depth) (deeper c m es) h in
    rw (lt-ltb k e.depth (omega (arith, ltb-true c e.depth a))) (deeper_less k c m es l b)

-- the place m behind place i: one more than their sum
abbrev pub behind : ℕ → ℕ → ℕ
behind zero m = suc m
behind (suc i) m = suc (behind i m)

deeper_behind : (k i m : ℕ) (es : List Element) → deeper k i es ≡ true → deeper (depth_at es i) m (drop (suc i) es) ≡ true → deeper k (behind i m) es ≡ true
deeper_behind k i m [] h g = h
deeper_behind k zero m (e ∷ es) h g = rw h (deeper_less k e.depth m es (omega (arith, ltb-true k e.depth h)) g)
deeper_behind k (suc i) m (e ∷ es) h g = let (a, b) = and_true (ltb k e.depth) (deeper k i es) h in rw a (deeper_behind k i m es b g)

deeper_before : (k i m : ℕ) (es : List Element) → deeper k (behind i m) es ≡ true → deeper k i es ≡ true
deeper_before k i m [] h = h
deeper_before k zero m (e ∷ es) h = (and_true (ltb k e.depth) (deeper k m es) h).0
deeper_before k (suc i) m (e ∷ es) h = let (a, b) = and_true (ltb k e.depth) (deeper k (behind i m) es) h in rw a (deeper_before k i m es b)

-- Marks by places
nones_at : (es : List Element) (m : ℕ) → get_or (nones es) m false ≡ false
nones_at [] m = refl
nones_at (e ∷ es) zero = refl
nones_at (e ∷ es) (suc m) = nones_at es m

either_at : (xs ys : List Bool) (m : ℕ) → get_or (either xs ys) m false ≡ (get_or xs m false || get_or ys m false)
either_at [] ys m = refl
either_at (x ∷ xs) [] m = sym (or_none_lem (get_or (x ∷ xs) m false))
either_at (x ∷ xs) (y ∷ ys) zero = refl
either_at (x ∷ xs) (y ∷ ys) (suc m) = either_at xs ys m

outer_at : (k : ℕ) {bs : List Bool} {es : List Element} → Outer k bs es → (m : ℕ) → deeper k m es ≡ true → get_or bs m false ≡ false
outer_at k out_end m h = refl
outer_at k (out_any bs e es low) zero h = absurd (omega (arith, ltb-true k e.depth h))
outer_at k (out_any bs e es low) (suc m) h = absurd (omega (arith, ltb-true k e.depth (and_true (ltb k e.depth) (deeper k m es) h).0))
outer_at k (out_deeper bs e es l o) zero h = refl
outer_at k (out_deeper bs e es l o) (suc m) h = outer_at k o m (and_true (ltb k e.depth) (deeper k m es) h).1

inner_at : (k : ℕ) {bs : List Bool} {es : List Element} → Inner k bs es → (m : ℕ) → deeper k m es ≡ false → get_or bs m false ≡ false
inner_at k (in_none es) m h = nones_at es m
inner_at k (in_deeper b bs e es l i) zero h = contradiction (lt-ltb k e.depth l) h
inner_at k (in_deeper b bs e es l i) (suc m) h = inner_at k i m (rw (lt-ltb k e.depth l) at h)

-- marks below an element that is marked or not, where the others are behind, and where they are not
module _ (es : List Element) (g : Bool) (own others : List Bool) (m : ℕ) where
  abbrev mixed : Bool
  mixed = get_or (either (cond g own (nones es)) others) m false

  of_own : get_or others m false ≡ false → mixed ≡ (g && get_or own m false)
  of_own h = either_at (cond g own (nones es)) others m ∙ ap (λ b. get_or (cond g own (nones es)) m false || b) h ∙ or_none_lem _ ∙ go g
    where
      go : (g : Bool) → get_or (cond g own (nones es)) m false ≡ (g && get_or own m false)
      go true = refl
      go false = nones_at es m

  of_others : get_or (cond g own (nones es)) m false ≡ false → mixed ≡ get_or others m false
  of_others h = either_at (cond g own (nones es)) others m ∙ ap (λ b. b || get_or others m false) h

and_assoc : (a b c : Bool) → (a && (b && c)) ≡ ((a && b) && c)
and_assoc true b c = refl
and_assoc false b c = refl

pick : (k : ℕ) (g : Bool) {xs : List Bool} {es : List Element} → Inner k xs es → Inner k (cond g xs (nones es)) es
pick k true x = x
pick k false {es = es} x = in_none es

module _ (hit : Element → Bool) (d : Decision) where
  -- the marks in the walk of an element's children, over the elements behind it
  abbrev pub marks_behind : List Element → ℕ → List Bool
  marks_behind es i =
      chain_from hit d (suc (depth_at es i)) (asked (get_or (map (λ e. e.word) es) i Word.Permit) (child_replies hit (suc (depth_at es i)) (drop (suc i) es))) (drop (suc i) es)

  pub marked_below : (k : ℕ) (bs : List Bool) (es : List Element) (i m : ℕ) → i < length es → deeper (depth_at es i) m (drop (suc i) es) ≡ true
      → get_or (chain_from hit d k bs es) (behind i m) false ≡ (get_or (chain_from hit d k bs es) i false && get_or (marks_behind es i) m false)
  marked_below k bs [] i m l h = absurd (omega arith)
  marked_below k bs (e ∷ es) zero m l h = go (compare e.depth k) refl
    where
      go : (o : Ordering) → compare e.depth k ≡ o
          → get_or (chain_from hit d k bs (e ∷ es)) (suc m) false ≡ (get_or (chain_from hit d k bs (e ∷ es)) 0 false && get_or (marks_behind (e ∷ es) 0) m false)
      go Ordering.lt o = rw o (nones_at es m)
      go Ordering.eq o =
          let i : e.depth ≡ k = eqb-true e.depth k (ap compare_is_eq o) in
          let g = is_next bs && is d (reply hit e (child_replies hit (suc k) es)).decision in
          let own = chain_from hit d (suc k) (asked e.word (child_replies hit (suc k) es)) es in
          let others = chain_from hit d k (drop 1 bs) es in
          rw o (of_own es g own others m (outer_at k (chain_outer hit d k (drop 1 bs) es) m (subst (λ n. deeper n m es ≡ true) i h))
          ∙ ap (λ n. g && get_or (chain_from hit d (suc n) (asked e.word (child_replies hit (suc n) es)) es) m false) (sym i))
      go Ordering.gt o = rw o (outer_at k (chain_outer hit d k bs es) m (deeper_less k e.depth m es (omega (arith, leb-false e.depth k (ap is_le o))) h))
  marked_below k bs (e ∷ es) (suc i) m l h = go (compare e.depth k) refl (λ n cs. marked_below n cs es i m (omega arith) h)
    where
      go : (o : Ordering) → compare e.depth k ≡ o → ((n : ℕ) (cs : List Bool) → get_or (chain_from hit d n cs es) (behind i m) false ≡ (get_or (chain_from hit d n cs es) i false && get_or (marks_behind es i) m false))
          → get_or (chain_from hit d k bs (e ∷ es)) (suc (behind i m)) false ≡ (get_or (chain_from hit d k bs (e ∷ es)) (suc i) false && get_or (marks_behind es i) m false)
      go Ordering.lt o more = rw (o, nones_at es (behind i m), nones_at es i)
      go Ordering.eq o more = rw o (at_child (test (deeper k i es)))
        where
          g : Bool
          g = is_next bs && is d (reply hit e (child_replies hit (suc k) es)).decision

          own : List Bool
          own = chain_from hit d (suc k) (asked e.word (child_replies hit (suc k) es)) es

          others : List Bool
          others = chain_from hit d k (drop 1 bs) es

          at_child : Test (deeper k i es) → get_or (either (cond g own (nones es)) others) (behind i m) false ≡ (get_or (either (cond g own (nones es)) others) i false && get_or (marks_behind es i) m false)
          at_child (passed b) =
              of_own es g own others (behind i m) (outer_at k (chain_outer hit d k (drop 1 bs) es) (behind i m) (deeper_behind k i m es b h))
              ∙ ap (λ x. g && x) (more (suc k) (asked e.word (child_replies hit (suc k) es))) ∙ and_assoc g (get_or own i false) (get_or (marks_behind es i) m false)
              ∙ sym (ap (λ x. x && get_or (marks_behind es i) m false) (of_own es g own others i (outer_at k (chain_outer hit d k (drop 1 bs) es) i b)))
          at_child (failed b) =
              of_others es g own others (behind i m) (inner_at k inner (behind i m) (not_behind (test (deeper k (behind i m) es))))
              ∙ more k (drop 1 bs)
              ∙ sym (ap (λ x. x && get_or (marks_behind es i) m false) (of_others es g own others i (inner_at k inner i b)))
            where
              inner : Inner k (cond g own (nones es)) es
              inner = pick k g (chain_inner hit d k (suc k) (asked e.word (child_replies hit (suc k) es)) es (omega arith))

              not_behind : Test (deeper k (behind i m) es) → deeper k (behind i m) es ≡ false
              not_behind (passed c) = contradiction (deeper_before k i m es c) b
              not_behind (failed c) = c
      go Ordering.gt o more = rw o (more k bs)

-- Children in the walk: child c stands at place j + m, where the walk goes from place j
module _ (es : List Element) (i : ℕ) where
  walk_from : {rest : List Element} {j : ℕ} {js : List ℕ} → Walk es i rest j js → (c : ℕ) → c < length js → j ≤ get_or js c 0
  walk_from (at_end j) c l = absurd (omega arith)
  walk_from (ended e rs j o) c l = absurd (omega arith)
  walk_from (met e rs j js o dr w) zero l = omega arith
  walk_from (met e rs j js o dr w) (suc c) l = omega (arith, walk_from w c (omega arith))
  walk_from (below e rs j js o w) c l = omega (arith, walk_from w c l)

  -- what stands before it is deeper than the parent, and it is not deeper than the next depth
  pub child_deeper : {rest : List Element} {j : ℕ} {js : List ℕ} → Walk es i rest j js → (c m : ℕ) → c < length js → get_or js c 0 ≡ j + m
      → (deeper (depth_at es i) m rest ≡ true) × (deeper (suc (depth_at es i)) m rest ≡ false)
  child_deeper (at_end j) c m l h = absurd (omega arith)
  child_deeper (ended e rs j o) c m l h = absurd (omega arith)
  child_deeper (met e rs j js o dr w) zero (suc m) l h = absurd (omega (arith, h))
  child_deeper (met e rs j js o dr w) zero zero l h =
      let k : e.depth ≡ suc (depth_at es i) = eqb-true e.depth (suc (depth_at es i)) (ap compare_is_eq o) in
      (lt-ltb (depth_at es i) e.depth (omega arith), le-ltb (suc (depth_at es i)) e.depth (omega arith))
  child_deeper (met e rs j js o dr w) (suc c) zero l h = absurd (omega (arith, h, walk_from w c (omega arith)))
  child_deeper (met e rs j js o dr w) (suc c) (suc m) l h =
      let k : e.depth ≡ suc (depth_at es i) = eqb-true e.depth (suc (depth_at es i)) (ap compare_is_eq o) in
      let (a, b) = child_deeper w c m (omega arith) (omega (arith, h)) in
      (rw (lt-ltb (depth_at es i) e.depth (omega arith)) a, rw (le-ltb (suc (depth_at es i)) e.depth (omega arith)))
  child_deeper (below e rs j js o w) c zero l h = absurd (omega (arith, h, walk_from w c l))
  child_deeper (below e rs j js o w) c (suc m) l h =
      let high = leb-false e.depth (suc (depth_at es i)) (ap is_le o) in
      let (a, b) = child_deeper w c m l (omega (arith, h)) in
      (rw (lt-ltb (depth_at es i) e.depth (omega arith)) a, rw (lt-ltb (suc (depth_at es i)) e.depth high) b)

  module _ (hit : Element → Bool) (d : Decision) where
    pub marked_child : {rest : List Element} {j : ℕ} {js : List ℕ} → Walk es i rest j js → (bs : List Bool) (c m : ℕ) → c < length js → get_or js c 0 ≡ j + m
        → get_or (chain_from hit d (suc (depth_at es i)) bs rest) m false ≡ (get_or bs c false && is d (first_decision hit (drop (j + m) es)))
    marked_child (at_end j) bs c m l h = absurd (omega arith)
    marked_child (ended e rs j o) bs c m l h = absurd (omega arith)
    marked_child (met e rs j js o dr w) bs zero (suc m) l h = absurd (omega (arith, h))
    marked_child (met e rs j js o dr w) bs zero zero l h =
        let k : e.depth ≡ suc (depth_at es i) = eqb-true e.depth (suc (depth_at es i)) (ap compare_is_eq o) in
        let here : j + 0 ≡ j = omega arith in
        let decides : first_decision hit (drop (j + 0) es) ≡ (reply hit e (child_replies hit (suc (suc (depth_at es i))) rs)).decision =
        ap (λ n. first_decision hit (drop n es)) here ∙ ap (first_decision hit) dr ∙ ap (λ n. (reply hit e (child_replies hit (suc n) rs)).decision) k in
        rw o (ap₂ (λ x y. x && is d y) (next_at_lem bs) (sym decides))
      where
        next_at_lem : (bs : List Bool) → is_next bs ≡ get_or bs 0 false
        next_at_lem [] = refl
        next_at_lem (b ∷ bs) = refl
    marked_child (met e rs j js o dr w) bs (suc c) zero l h = absurd (omega (arith, h, walk_from w c (omega arith)))
    marked_child (met e rs j js o dr w) bs (suc c) (suc m) l h =
        let k = suc (depth_at es i) in
        let g = is_next bs && is d (reply hit e (child_replies hit (suc k) rs)).decision in
        let own = chain_from hit d (suc k) (asked e.word (child_replies hit (suc k) rs)) rs in
        let inner : Inner k (cond g own (nones rs)) rs = pick k g (chain_inner hit d k (suc k) (asked e.word (child_replies hit (suc k) rs)) rs (omega arith)) in
        let place : suc j + m ≡ j + suc m = omega arith in
        rw o (of_others rs g own (chain_from hit d k (drop 1 bs) rs) m (inner_at k inner m (child_deeper w c m (omega arith) (omega (arith, h))).1)
        ∙ marked_child w (drop 1 bs) c m (omega arith) (omega (arith, h))
        ∙ ap₂ (λ x n. x && is d (first_decision hit (drop n es))) (drop_at bs) place)
      where
        drop_at : (bs : List Bool) → get_or (drop 1 bs) c false ≡ get_or bs (suc c) false
        drop_at [] = refl
        drop_at (b ∷ bs) = refl
    marked_child (below e rs j js o w) bs c zero l h = absurd (omega (arith, h, walk_from w c l))
    marked_child (below e rs j js o w) bs c (suc m) l h =
        let place : suc j + m ≡ j + suc m = omega arith in
        rw o (marked_child w bs c m l (omega (arith, h)) ∙ ap (λ n. get_or bs c false && is d (first_decision hit (drop n es))) place)
