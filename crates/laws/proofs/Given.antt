-- Which obligations come with a decision: by marks, one for each element.
use mathlib.Core.Path.{◌≡◌, refl, sym, ap, ap₂, ◌∙◌, subst}
use mathlib.Core.Logic.{◌≢◌, ◌⊎◌, ◌↔◌}
use Prim.Native.Nat.{ℕ, zero, suc, ◌+◌, ◌-◌, ◌≤◌, ◌<◌, compare, Ordering}
use native.Mathlib.Omega.{arith}
use mathlib.Core.Bool.{Bool, true, false, ◌&&◌}
use mathlib.Core.List.Memᴰ
use mathlib.Core.List.{List, [], ◌∷◌, ◌++◌, map, Memᴰ}
use mathlib.Core.Option.{some}
use lib.ListN.{length, get_or, drop, length-map, get_or-eq_default}
use lib.Dec.{eqb, ltb, compare_is_eq}
use borrow.Author.Tests.{eqb-true, eqb-false, ltb-true, ltb-false}
use Rattle.meaning.specs.Text.{Bytes, bytes, keep, gathered, same}
use Rattle.meaning.specs.Model.{obligation_name, obligations_of, word_text, decision_text, Policy, given}
use Rattle.meaning.specs.Reading.{read}
use Rattle.meaning.specs.Deciding.{is, Reply, reply, child_replies, first_decision, asked, own_obligations, hits, decision_on}
use Rattle.meaning.specs.Segments.{depth_at, parent_of, children_of, decision_at}
use Rattle.meaning.specs.Claims.Texts.{Each, Rising}
use Rattle.meaning.specs.Claims.PolicyFile.{Placed}
use Rattle.meaning.specs.Claims.Deciding.{reply_at, UpTo, NoneSettled, SoleMatch, Asked, marked_of, ObligationsGiven}
use Rattle.laws.proofs.Types.{Word, deny_overrides, permit_overrides, first_applicable, only_one_applicable, Decision, not_applicable, indeterminate, Obligation, Element}
use Rattle.laws.proofs.Bools.{Test, passed, failed, test, contradiction, and_true}
use Rattle.laws.proofs.Search.{keep_has, rising_distinct}
use Rattle.laws.proofs.Outcomes.{same_decision, decision_same}
use Rattle.laws.proofs.Lists.{has_at, gathered_twice}
use Rattle.laws.proofs.Segments.{one_kept}
use Rattle.laws.proofs.WellFormed.{well_formed}
use Rattle.laws.proofs.Children.{children_rising, child_only, child_has, parent_before, accepted_steps, children_walk}
use Rattle.laws.proofs.Decided.{replies}
use Rattle.laws.proofs.Asked.{asked_in_order}
use Rattle.laws.proofs.Chains.{chain_from, marked, chain_obligations, chain_length}
use Rattle.laws.proofs.Marked.{behind, marked_below, child_deeper, marked_child}

-- The names of the marked elements' obligations
module _ (d : Decision) where
  abbrev spells : Obligation → Bool
  spells o = same (word_text o.word) (decision_text d)

  keep_append : (xs ys : List Obligation) → keep spells (xs ++ ys) ≡ keep spells xs ++ keep spells ys
  keep_append [] ys = refl
  keep_append (x ∷ xs) ys = go (test (spells x)) (keep_append xs ys)
    where
      go : Test (spells x) → keep spells (xs ++ ys) ≡ keep spells xs ++ keep spells ys → keep spells ((x ∷ xs) ++ ys) ≡ keep spells (x ∷ xs) ++ keep spells ys
      go (passed t) later = rw t (ap (λ zs. x ∷ zs) later)
      go (failed t) later = rw t later

  keep_gathered : (es : List Element) → keep spells (gathered obligations_of es) ≡ gathered (λ e. keep spells (obligations_of e)) es
  keep_gathered [] = refl
  keep_gathered (e ∷ es) = keep_append (obligations_of e) (gathered obligations_of es) ∙ ap (λ zs. keep spells (obligations_of e) ++ zs) (keep_gathered es)

  marked_own : (bs : List Bool) (es : List Element) → marked d bs es ≡ gathered (own_obligations d) (marked_of bs es)
  marked_own [] es = refl
  marked_own (b ∷ bs) [] = refl
  marked_own (true ∷ bs) (e ∷ es) = ap (λ t. own_obligations d e ++ t) (marked_own bs es)
  marked_own (false ∷ bs) (e ∷ es) = marked_own bs es

  marked_names : (bs : List Bool) (es : List Element) → marked d bs es ≡ gathered (λ o. obligation_name o ++ bytes "\n") (keep spells (gathered obligations_of (marked_of bs es)))
  marked_names bs es =
      marked_own bs es
      ∙ sym (gathered_twice (λ o. obligation_name o ++ bytes "\n") (λ e. keep spells (obligations_of e)) (marked_of bs es))
      ∙ ap (gathered (λ o. obligation_name o ++ bytes "\n")) (sym (keep_gathered (marked_of bs es)))

-- Places in a rising list
mem_at : {x : ℕ} {xs : List ℕ} → Memᴰ x xs → (c : ℕ) × (c < length xs) × (get_or xs c 0 ≡ x)
mem_at (Memᴰ.head e) = (0, omega arith, sym e)
mem_at (Memᴰ.tail m) = let (c, l, e) = mem_at m in (suc c, omega arith, e)

rising_at : (xs : List ℕ) → Rising xs → (b c : ℕ) → b < c → c < length xs → get_or xs b 0 < get_or xs c 0
rising_at [] r b c l m = absurd (omega arith)
rising_at (x ∷ xs) r b zero l m = absurd (omega arith)
rising_at (x ∷ xs) r zero (suc c) l m = r.0 (get_or xs c 0) (has_at xs 0 c (omega arith))
rising_at (x ∷ xs) r (suc b) (suc c) l m = rising_at xs r.1 b c (omega arith) (omega arith)

rising_lower : (xs : List ℕ) → Rising xs → (b c : ℕ) → b < length xs → get_or xs b 0 < get_or xs c 0 → b < c
rising_lower xs r b c l h = go (test (ltb b c)) (test (eqb b c))
  where
    go : Test (ltb b c) → Test (eqb b c) → b < c
    go (passed x) y = ltb-true b c x
    go (failed x) (passed y) = absurd (omega (arith, h, ap (λ k. get_or xs k 0) (eqb-true b c y)))
    go (failed x) (failed y) = let other : b ≢ c = eqb-false b c y in absurd (omega (arith, h, rising_at xs r c b (omega (arith, ltb-false b c x)) l))

at_map : {A B : Type 0} (f : A → B) (xs : List A) (a : A) (b : B) (c : ℕ) → c < length xs → get_or (map f xs) c b ≡ f (get_or xs c a)
at_map f [] a b c l = absurd (omega arith)
at_map f (x ∷ xs) a b zero l = refl
at_map f (x ∷ xs) a b (suc c) l = at_map f xs a b c (omega arith)

keep_map : {A B : Type 0} (t : B → Bool) (f : A → B) (xs : List A) → length (keep t (map f xs)) ≡ length (keep (λ x. t (f x)) xs)
keep_map t f [] = refl
keep_map t f (x ∷ xs) = go (test (t (f x))) (keep_map t f xs)
  where
    go : Test (t (f x)) → length (keep t (map f xs)) ≡ length (keep (λ x. t (f x)) xs) → length (keep t (map f (x ∷ xs))) ≡ length (keep (λ x. t (f x)) (x ∷ xs))
    go (passed h) later = rw h (ap suc later)
    go (failed h) later = rw h later

one_only : {A : Type 0} {x y : A} (xs : List A) → length xs ≡ 1 → Memᴰ x xs → Memᴰ y xs → x ≡ y
one_only [] l m n = absurd (omega (arith, l))
one_only (z ∷ []) l m n = Memᴰ.eq_of_singleton m ∙ sym (Memᴰ.eq_of_singleton n)
one_only (z ∷ w ∷ zs) l m n = absurd (omega (arith, l))

through : {A B C : Type 0} → A ↔ B → B ↔ C → A ↔ C
through f g = (λ a. g.0 (f.0 a), λ c. f.1 (g.1 c))

-- Child c of place i, which stands at place j: whether it is asked, by the replies and by places
module _ (p : Policy) (n i : ℕ) where
  abbrev js : List ℕ
  js = children_of p.elements i

  abbrev rs : List Reply
  rs = map (reply_at p n) js

  reply_of_lem : {B : Type 0} (f : Reply → B) (b : B) (c : ℕ) → c < length js → get_or (map f rs) c b ≡ f (reply_at p n (get_or js c 0))
  reply_of_lem f b c l =
      let l' : c < length rs = omega (arith, length-map js (reply_at p n)) in
      at_map f rs (reply_at p n 0) b c l' ∙ ap f (at_map (reply_at p n) js 0 (reply_at p n 0) c l)

  parent_at : (c : ℕ) → c < length js → (get_or js c 0 < length p.elements) × (parent_of p.elements (get_or js c 0) ≡ some i)
  parent_at c l = child_only p.elements i (get_or js c 0) (has_at js 0 c l)

  module _ (c j : ℕ) (l : c < length js) (e : get_or js c 0 ≡ j) where
    in_file : j < length p.elements
    in_file = omega (arith, e, (parent_at c l).0)

    settled_places : (S : Decision → Type 0) → UpTo S rs c ↔ NoneSettled S p n i j
    settled_places S = (to, from)
      where
        to : UpTo S rs c → NoneSettled S p n i j
        to u k lower h s =
            let (b, m, f) = mem_at (child_has p.elements i k (omega (arith, in_file)) h) in
            let b<c = rising_lower js (children_rising p.elements i) b c m (omega (arith, e, f)) in
            u.1 b b<c (subst S (sym (reply_of_lem (λ r. r.decision) not_applicable b m ∙ ap (decision_at p n) f)) s)

        from : NoneSettled S p n i j → UpTo S rs c
        from none = (
          omega (arith, length-map js (reply_at p n)),
          λ b m s.
              let k : b < length js = omega arith in
              none (get_or js b 0) (omega (arith, e, rising_at js (children_rising p.elements i) b c m l)) (parent_at b k).1 (subst S (reply_of_lem (λ r. r.decision) not_applicable b k) s),
        )

    abbrev matching : ℕ → Bool
    matching k = (reply_at p n k).matched

    sole_match : ((get_or (map (λ r. r.matched) rs) c false ≡ true) × (length (keep (λ r. r.matched) rs) ≡ 1)) ↔ SoleMatch p n i j
    sole_match = (to, from)
      where
        own : get_or (map (λ r. r.matched) rs) c false ≡ matching j
        own = reply_of_lem (λ r. r.matched) false c l ∙ ap matching e

        mine : Memᴰ j js
        mine = child_has p.elements i j in_file (subst (λ k. parent_of p.elements k ≡ some i) e (parent_at c l).1)

        to : (get_or (map (λ r. r.matched) rs) c false ≡ true) × (length (keep (λ r. r.matched) rs) ≡ 1) → SoleMatch p n i j
        to (t, one) = (
          sym own ∙ t,
          λ k other h s.
              other (one_only (keep matching js) (sym (keep_map (λ r. r.matched) (reply_at p n) js) ∙ one) (keep_has matching k (child_has p.elements i k (in_places k s (test (ltb k (length p.elements)))) h) s) (keep_has matching j mine (sym own ∙ t))),
        )
          where
            in_places : (k : ℕ) → matching k ≡ true → Test (ltb k (length p.elements)) → k < length p.elements
            in_places k s (passed x) = ltb-true k (length p.elements) x
            in_places k s (failed x) =
                let long : length (map (hits p n) p.elements) ≤ k = omega (arith, ltb-false k (length p.elements) x, length-map p.elements (hits p n)) in
                contradiction s (get_or-eq_default (map (hits p n) p.elements) false long)

        from : SoleMatch p n i j → (get_or (map (λ r. r.matched) rs) c false ≡ true) × (length (keep (λ r. r.matched) rs) ≡ 1)
        from (t, sole) = (own ∙ t, keep_map (λ r. r.matched) (reply_at p n) js ∙ one_kept matching j mine (rising_distinct js (children_rising p.elements i)) t (λ k m s. only k m s (test (eqb k j))))
          where
            only : (k : ℕ) → Memᴰ k js → matching k ≡ true → Test (eqb k j) → k ≡ j
            only k m s (passed x) = eqb-true k j x
            only k m s (failed x) = absurd (sole k (eqb-false k j x) (child_only p.elements i k m).1 s)

    asked_place : (w : Word) → get_or (asked w rs) c false ≡ true ↔ Asked w p n i j
    asked_place Word.Permit = (λ h. contradiction h refl, λ x. absurd x)
    asked_place Word.Deny = (λ h. contradiction h refl, λ x. absurd x)
    asked_place deny_overrides = through (asked_in_order.deny_first rs c) (settled_places (λ d. (d ≡ Decision.Deny) ⊎ (d ≡ indeterminate)))
    asked_place permit_overrides = through (asked_in_order.permit_first rs c) (settled_places (λ d. d ≡ Decision.Permit))
    asked_place first_applicable = through (asked_in_order.any_first rs c) (settled_places (λ d. d ≢ not_applicable))
    asked_place only_one_applicable = through (asked_in_order.sole rs c) sole_match

-- The marks of an accepted file's elements
module _ (f : Bytes) (p : Policy) (h : read f ≡ given p) (n : ℕ) where
  abbrev es : List Element
  es = p.elements

  abbrev marks : List Bool
  marks = chain_from (hits p n) (decision_on p n) 0 (true ∷ []) es

  abbrev word_at : ℕ → Word
  word_at i = get_or (map (λ e. e.word) es) i Word.Permit

  behind_is : (i m : ℕ) → behind i m ≡ suc i + m
  behind_is zero m = omega arith
  behind_is (suc i) m = omega (arith, behind_is i m)

  -- the mark of child c of place i, at place j
  mark_is : (i j c : ℕ) → j < length es → parent_of es j ≡ some i → c < length (children_of es i) → get_or (children_of es i) c 0 ≡ j
      → get_or marks j false ≡ (get_or marks i false && (get_or (asked (word_at i) (map (reply_at p n) (children_of es i))) c false && is (decision_on p n) (decision_at p n j)))
  mark_is i j c l parent inside e =
      let m = j - suc i in
      let before = parent_before es i j parent in
      let place : suc i + m ≡ j = omega arith in
      let at : get_or (children_of es i) c 0 ≡ suc i + m = e ∙ sym place in
      let walk = children_walk es (accepted_steps f p h) i (omega arith) in
      let here = marked_below (hits p n) (decision_on p n) 0 (true ∷ []) es i m (omega arith) (child_deeper es i walk c m inside at).0 in
      let child = marked_child es i (hits p n) (decision_on p n) walk (asked (word_at i) (child_replies (hits p n) (suc (depth_at es i)) (drop (suc i) es))) c m inside at in
      sym (ap (λ k. get_or marks k false) (behind_is i m ∙ place)) ∙ here ∙ ap (λ b. get_or marks i false && b) (child
      ∙ ap₂ (λ rs k. get_or (asked (word_at i) rs) c false && is (decision_on p n) (decision_at p n k)) (replies f p h n i (omega arith)) place)

  child_marked : (i j : ℕ) → parent_of es j ≡ some i → j < length es
      → get_or marks j false ≡ true ↔ ((get_or marks i false ≡ true) × Asked (word_at i) p n i j × (decision_at p n j ≡ decision_on p n))
  child_marked i j parent l =
      let (c, inside, e) = mem_at (child_has es i j l parent) in
      let is-mark = mark_is i j c l parent inside e in
      let at = asked_place p n i c j inside e (word_at i) in (
        λ t.
            let (above, own) = and_true _ _ (sym is-mark ∙ t) in
            let (a, g) = and_true _ _ own in
            (above, at.0 a, sym (same_decision (decision_on p n) (decision_at p n j) g)),
        λ (above, a, g). is-mark ∙ rw (above, at.1 a, g, decision_same (decision_on p n)),
      )

first_mark : (hit : Element → Bool) (es : List Element) → 1 ≤ length es → Each Placed [] es → get_or (chain_from hit (first_decision hit es) 0 (true ∷ []) es) 0 false ≡ true
first_mark hit [] some_element placed = absurd (omega arith)
first_mark hit (e ∷ es) some_element placed = go (compare e.depth 0) refl
  where
    z : e.depth ≡ 0
    z = placed.0.0

    go : (o : Ordering) → compare e.depth 0 ≡ o → get_or (chain_from hit (first_decision hit (e ∷ es)) 0 (true ∷ []) (e ∷ es)) 0 false ≡ true
    go Ordering.lt o = absurd (eqb-false e.depth 0 (ap compare_is_eq o) z)
    go Ordering.eq o =
        let gives : ℕ → Decision = λ k. (reply hit e (child_replies hit (suc k) es)).decision in
        rw o (ap (λ k. is (gives e.depth) (gives k)) (sym z) ∙ decision_same (gives e.depth))
    go Ordering.gt o = absurd (eqb-false e.depth 0 (ap compare_is_eq o) z)

pub obligations_given : (f : Bytes) (p : Policy) → read f ≡ given p → (n : ℕ) → ObligationsGiven p n
obligations_given f p h n =
    let w = (well_formed f p).0 h in
    record {
      marks = marks f p h n;
      one_each = chain_length (hits p n) (decision_on p n) 0 (true ∷ []) p.elements;
      first_marked = first_mark (hits p n) p.elements w.some_element w.good.placed;
      child_marked = child_marked f p h n;
      names = chain_obligations (hits p n) (decision_on p n) 0 (true ∷ []) p.elements ∙ marked_names (decision_on p n) (marks f p h n) p.elements;
    }
