-- The places that are chained are the marks of the meaning's elements: those of the table that flags leave.
use Prim.Native.Nat.compare
use Prim.Native.Nat.{ℕ, zero, suc, ◌+◌, ◌-◌, ◌≤◌, ◌<◌, compare, Ordering}
use mathlib.Core.Path.{◌≡◌, refl, sym, ap, ap₂, ◌∙◌, subst}
use mathlib.Core.Bool.{Bool, true, false, not, cond, ◌&&◌, ◌||◌, or-false}
use mathlib.Core.List.{List, [], ◌∷◌}
use native.Mathlib.Omega.{arith}
use lib.Dec.{compare_is_eq, eqb}
use lib.ListN.{get_or, drop}
use borrow.Author.Tests.{eq-eqb, ne_eqb, eqb-true}
use Rattle.meaning.specs.Deciding.{Reply, reply, child_replies, asked}
use Rattle.laws.proofs.Types.{Word, Decision, Element}
use Rattle.laws.proofs.Bools.{Test, passed, failed, test, and_true}
use Rattle.laws.proofs.Chains.{nones, either, chain_from}
use Rattle.table.specs.declared.Row.{Row}
use Rattle.table.specs.Rows.{word_at, word_number, depth_of, element_at}
use Rattle.table.specs.Tree.{left}
use Rattle.table.proofs.Children.{left_here}
use Rattle.decisions.specs.Replies.{replies_from, reply_at}
use Rattle.chains.specs.Chain.{alike, asks, settles, gives_asked, asks_next, chained_in, chained}
use Rattle.chains.proofs.Places.{none_in, none_before, none_struck}
use Rattle.chains.proofs.Fitting.{honest, Fits, fits_first, fits_below}

-- what a test says of the m places from place i on that flags leave
abbrev pub marks_left : (ℕ → Bool) → List ℕ → (i m : ℕ) → List Bool
marks_left f s i zero = []
marks_left f s i (suc m) = let later = marks_left f s (i + 1) m in cond (eqb (get_or s i 0) 0) (f i ∷ later) later

module _ (s : List ℕ) where
  marks_none : (t : List Row) (f : ℕ → Bool) (i m : ℕ) → ((j : ℕ) → f j ≡ false) → marks_left f s i m ≡ nones (left t s i m)
  unfolding left
  marks_none t f i zero none = refl
  marks_none t f i (suc m) none = go (test (eqb (get_or s i 0) 0)) (marks_none t f (i + 1) m none)
    where
      go : Test (eqb (get_or s i 0) 0) → marks_left f s (i + 1) m ≡ nones (left t s (i + 1) m) → marks_left f s i (suc m) ≡ nones (left t s i (suc m))
      go (passed x) later = rw x (ap₂ (λ y ys. y ∷ ys) (none i) later)
      go (failed x) later = rw x later

  marks_either : (f g : ℕ → Bool) (i m : ℕ) → either (marks_left f s i m) (marks_left g s i m) ≡ marks_left (λ j. f j || g j) s i m
  marks_either f g i zero = refl
  marks_either f g i (suc m) = go (test (eqb (get_or s i 0) 0)) (marks_either f g (i + 1) m)
    where
      go : Test (eqb (get_or s i 0) 0) → either (marks_left f s (i + 1) m) (marks_left g s (i + 1) m) ≡ marks_left (λ j. f j || g j) s (i + 1) m → either (marks_left f s i (suc m)) (marks_left g s i (suc m)) ≡ marks_left (λ j. f j || g j) s i (suc m)
      go (passed x) later = rw x (ap (λ ys. (f i || g i) ∷ ys) later)
      go (failed x) later = rw x later

  marks_same : (f g : ℕ → Bool) (i m : ℕ) → ((j : ℕ) → i ≤ j → f j ≡ g j) → marks_left f s i m ≡ marks_left g s i m
  marks_same f g i zero same = refl
  marks_same f g i (suc m) same = go (test (eqb (get_or s i 0) 0)) (marks_same f g (i + 1) m (λ j l. same j (omega arith)))
    where
      go : Test (eqb (get_or s i 0) 0) → marks_left f s (i + 1) m ≡ marks_left g s (i + 1) m → marks_left f s i (suc m) ≡ marks_left g s i (suc m)
      go (passed x) later = rw x (ap₂ (λ y ys. y ∷ ys) (same i (omega arith)) later)
      go (failed x) later = rw x later

  -- a child at place i, those below it and those behind it
  child_marks : (i m : ℕ) (gives : Bool) (below behind : ℕ → Bool) (xs ys : List Bool) → below i ≡ false → behind i ≡ false → xs ≡ marks_left below s (i + 1) m → ys ≡ marks_left behind s (i + 1) m
      → (gives ∷ either xs ys) ≡ (((eqb i i && gives) || (below i || behind i)) ∷ marks_left (λ j. (eqb j i && gives) || (below j || behind j)) s (i + 1) m)
  child_marks i m gives below behind xs ys p q e f =
      let here : gives ≡ ((eqb i i && gives) || (below i || behind i)) = rw (eq-eqb i i refl, p, q) (sym (or-false gives)) in
      ap₂ (λ y zs. y ∷ zs) here
      (ap₂ either e f ∙ marks_either below behind (i + 1) m ∙ marks_same (λ j. below j || behind j) (λ j. (eqb j i && gives) || (below j || behind j)) (i + 1) m (λ j l. rw (ne_eqb j i (omega arith))))

equal : (k : ℕ) → compare k k ≡ Ordering.eq
equal zero = compare.zero-zero
equal (suc k) = compare.suc-suc k k ∙ equal k

module _ (hit : Element → Bool) (d : Decision) (t : List Row) (s : List ℕ) (n : ℕ) where
  -- the meaning's marks, and those of the places
  abbrev Same : Word → ℕ → Bool → List Bool → (i m : ℕ) → Type 0
  Same w k b bs i m = chain_from hit d k bs (left t s i m) ≡ marks_left (λ j. chained_in hit d t s n w k b j i m) s i m

  abbrev Later : (i m : ℕ) → Type 0
  Later i m = (w : Word) (k : ℕ) (b : Bool) (bs : List Bool) → Fits d bs w b (child_replies hit k (left t s i m)) → Same w k b bs i m

  -- the word of element i, and what its children give, of m places behind it
  abbrev word_of : ℕ → Word
  word_of i = word_at (word_number t i)

  abbrev below : (i m : ℕ) → List Reply
  below i m = child_replies hit (suc (depth_of t i)) (left t s (i + 1) m)

  abbrev chain_below : (i m : ℕ) → List Bool
  chain_below i m = chain_from hit d (suc (depth_of t i)) (asked (word_of i) (below i m)) (left t s (i + 1) m)

  -- what is marked below a child that gives d; nothing is below one that does not
  below_child : (i m : ℕ) (gives : Bool) → (gives ≡ true → Fits d (asked (word_of i) (below i m)) (word_of i) true (below i m)) → Later (i + 1) m
      → cond gives (chain_below i m) (nones (left t s (i + 1) m)) ≡ marks_left (λ j. chained_in hit d t s n (word_of i) (suc (depth_of t i)) gives j (i + 1) m) s (i + 1) m
  below_child i m true fits later = later (word_of i) (suc (depth_of t i)) true (asked (word_of i) (below i m)) (fits refl)
  below_child i m false fits later = sym (marks_none s t _ (i + 1) m (λ j. none_in hit d t s n (word_of i) (suc (depth_of t i)) false j (i + 1) m refl))

  chain_child : (m i : ℕ) (w : Word) (b : Bool) (bs : List Bool) → i + suc m ≡ n → eqb (get_or s i 0) 0 ≡ true → Later (i + 1) m
      → Fits d bs w b (child_replies hit (depth_of t i) (left t s i (suc m))) → Same w (depth_of t i) b bs i (suc m)
  unfolding left chained_in element_at reply_at replies_from
  chain_child m i w b bs e x later fits =
      let rest : n - (i + 1) ≡ m = omega arith in
      let replied : reply_at hit t s n i ≡ reply hit (element_at t i) (below i m) = rw rest in
      let split : Fits d bs w b (reply hit (element_at t i) (below i m) ∷ child_replies hit (depth_of t i) (left t s (i + 1) m)) = rw (x, equal (depth_of t i)) at fits in
      let gives = gives_asked hit d t s n w b i in
      let given = split.0 ∙ ap (λ r. (b && asks w) && alike d r.decision) (sym replied) in
      let behind = later w (depth_of t i) (asks_next hit d t s n w b i) (drop 1 bs) (subst (λ r. Fits d (drop 1 bs) w (b && not (settles w r.decision)) (child_replies hit (depth_of t i) (left t s (i + 1) m))) (sym replied) split.1) in
      let asked-below : gives ≡ true → Fits d (asked (word_of i) (below i m)) (word_of i) true (below i m) =
      λ g. fits_below hit d (element_at t i) (below i m) (honest hit (suc (depth_of t i)) (left t s (i + 1) m)) (ap (λ r. alike d r.decision) (sym replied) ∙ (and_true (b && asks w) (alike d (reply_at hit t s n i).decision) g).1) in
      rw (x, equal (depth_of t i))
      (ap (λ g. g ∷ either (cond g (chain_below i m) (nones (left t s (i + 1) m))) (chain_from hit d (depth_of t i) (drop 1 bs) (left t s (i + 1) m))) given
      ∙ child_marks s i m gives (λ j. chained_in hit d t s n (word_of i) (suc (depth_of t i)) gives j (i + 1) m) (λ j. chained_in hit d t s n w (depth_of t i) (asks_next hit d t s n w b i) j (i + 1) m) _ _
      (none_before hit d t s n (word_of i) (suc (depth_of t i)) gives i (i + 1) m (omega arith)) (none_before hit d t s n w (depth_of t i) (asks_next hit d t s n w b i) i (i + 1) m (omega arith)) (below_child i m gives asked-below later) behind
      ∙ ap (λ ys. ((eqb i i && gives) || (chained_in hit d t s n (word_of i) (suc (depth_of t i)) gives i (i + 1) m || chained_in hit d t s n w (depth_of t i) (asks_next hit d t s n w b i) i (i + 1) m)) ∷ ys)
      (marks_same s _ (λ j. chained_in hit d t s n w (depth_of t i) b j i (suc m)) (i + 1) m (λ j l. rw (x, equal (depth_of t i)))))

  chain_from_lem : (m i : ℕ) (w : Word) (k : ℕ) (b : Bool) (bs : List Bool) → i + m ≡ n → Fits d bs w b (child_replies hit k (left t s i m)) → Same w k b bs i m
  unfolding left chained_in element_at
  chain_from_lem zero i w k b bs e fits = refl
  chain_from_lem (suc m) i w k b bs e fits = go (test (eqb (get_or s i 0) 0)) (compare (depth_of t i) k) refl (λ w k b bs. chain_from_lem m (i + 1) w k b bs (omega arith))
    where
      go : Test (eqb (get_or s i 0) 0) → (o : Ordering) → compare (depth_of t i) k ≡ o → Later (i + 1) m → Same w k b bs i (suc m)
      go (failed x) o c later = rw x (later w k b bs (rw x at fits) ∙ marks_same s _ (λ j. chained_in hit d t s n w k b j i (suc m)) (i + 1) m (λ j l. rw x))
      go (passed x) Ordering.lt c later = rw (x, c) (ap (λ ys. false ∷ ys) (sym (marks_none s t (λ j. chained_in hit d t s n w k b j i (suc m)) (i + 1) m (λ j. rw (x, c)))))
      go (passed x) Ordering.eq c later =
          let depth : depth_of t i ≡ k = eqb-true (depth_of t i) k (ap compare_is_eq c) in
          subst (λ k. Same w k b bs i (suc m)) depth (chain_child m i w b bs e x later (subst (λ k. Fits d bs w b (child_replies hit k (left t s i (suc m)))) (sym depth) fits))
      go (passed x) Ordering.gt c later =
          rw (x, c) (ap₂ (λ y ys. y ∷ ys) (sym (none_before hit d t s n w k b i (i + 1) m (omega arith))) (later w k b bs (rw (x, c) at fits) ∙ marks_same s _ (λ j. chained_in hit d t s n w k b j i (suc m)) (i + 1) m (λ j l. rw (x, c))))

-- Of n elements, with the decision that the first gives
module _ (hit : Element → Bool) (t : List Row) (s : List ℕ) (n : ℕ) where
  abbrev first : Decision
  first = (reply_at hit t s n 0).decision

  opens : 0 < n → get_or s 0 0 ≡ 0 → child_replies hit (depth_of t 0) (left t s 0 (n - 0)) ≡ reply_at hit t s n 0 ∷ child_replies hit (depth_of t 0) (left t s (0 + 1) (n - (0 + 1)))
  unfolding element_at reply_at replies_from
  opens some live = rw (left_here t s n 0 some live, equal (depth_of t 0))

  -- it is permit or deny: the meaning's marks of the elements that are left are what the places say
  pub chain_is : 0 < n → get_or s 0 0 ≡ 0 → alike first first ≡ true → chain_from hit first (depth_of t 0) (true ∷ []) (left t s 0 n) ≡ marks_left (chained hit t s n) s 0 n
  unfolding chained
  chain_is some live decided =
      let whole : n - 0 ≡ n = omega arith in
      subst (λ m. chain_from hit first (depth_of t 0) (true ∷ []) (left t s 0 m) ≡ marks_left (λ j. chained_in hit first t s n Word.FirstApplicable (depth_of t 0) (alike first first) j 0 (n - 0)) s 0 m) whole
      (chain_from_lem hit first t s n (n - 0) 0 Word.FirstApplicable (depth_of t 0) (alike first first) (true ∷ []) (omega arith) (rw (opens some live) (fits_first (reply_at hit t s n 0) (child_replies hit (depth_of t 0) (left t s (0 + 1) (n - (0 + 1)))) decided)))

  -- it is neither
  pub chain_none : (j : ℕ) → alike first first ≡ false → chained hit t s n j ≡ false
  unfolding chained
  chain_none j e = none_in hit first t s n Word.FirstApplicable (depth_of t 0) (alike first first) j 0 (n - 0) (rw e)

  -- a struck element is not chained
  pub chain_struck : (j : ℕ) → (get_or s j 0 ≡ 0 → ⊥) → chained hit t s n j ≡ false
  unfolding chained
  chain_struck j flag = none_struck hit first t s n Word.FirstApplicable (depth_of t 0) (alike first first) j 0 (n - 0) flag
