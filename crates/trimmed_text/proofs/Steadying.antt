-- What trimming asks of a file holds of every accepted one: a rule changes nothing where its policy decides alike without it.
use Prim.Native.Nat.{ℕ, zero, suc, ◌+◌, ◌-◌, ◌≤◌, ◌<◌}
use mathlib.Core.Path.{◌≡◌, refl, sym, ap, subst, ◌∙◌}
use mathlib.Core.Logic.{◌≢◌, inl, inr}
use mathlib.Core.Bool.{Bool, true, false, cond}
use mathlib.Core.List.{List, [], ◌∷◌, ◌++◌, map, reverse}
use native.Mathlib.Omega.{arith}
use lib.Dec.{eqb, ltb}
use lib.ListN.{length, get_or, set}
use lib.Seq.{get_or-set_same, get_or-set_other, set-set, set-get_or}
use borrow.Author.Tests.{eqb-true, eqb-false, ltb-true, ltb-false, not-false}
use Rattle.meaning.specs.Text.{Bytes}
use Rattle.meaning.specs.Model.{Policy, given}
use Rattle.meaning.specs.Reading.{read}
use Rattle.meaning.specs.Deciding.{Reply, request_of, matches, combined, reply, child_replies}
use Rattle.laws.proofs.Types.{policy, Decision, not_applicable, Element}
use Rattle.laws.proofs.Bools.{Test, passed, failed, test}
use Rattle.laws.proofs.Outcomes.{same_decision}
use Rattle.laws.proofs.Obligations.{Bare}
use Rattle.laws.proofs.Unchanged.{Gone, gone, deeper, Same, parent, later, same_outcome_lem}
use Rattle.laws.proofs.Policies.{policy_bare}
use Rattle.table.specs.declared.Row.{Row}
use Rattle.table.specs.Rows.{word_at, algorithm_at, algorithm_number, depth_of, element_at, word_number}
use Rattle.table.specs.Tree.{Leaves, RulesStruck, Over}
use Rattle.table.specs.declared.Shape.{Shape}
use Rattle.table.specs.Shape.{counts_of, severals_of, hit_of}
use Rattle.decisions.specs.Replies.{replies_from, reply_at}
use Rattle.decisions.proofs.Leaves.{FirstWithin, first_within, replies_without}
use Rattle.moves.specs.Moved.{kept, moved_at}
use Rattle.moves.proofs.Rules.{group_word}
use Rattle.layout.specs.declared.ElementPlaces.{ElementPlaces}
use Rattle.layout.specs.Places.{element_in, elements_to, Obliged}
use Rattle.layout.proofs.Laws.{bare, replies_bare}
use Rattle.obligations.specs.Given.{left_elements, outcome_left}
use Rattle.obligations.proofs.Left.{left_bare, all_elements, outcome_left_lem}
use Rattle.trials.specs.Steady.{Aside, Steady}
use Rattle.trimmed_text.proofs.ByPlace.{some_element, top_depth, parent_of, policy_over}

module _ (f : Bytes) (table : List Row) (places : List ElementPlaces) (n : ℕ) where
  -- what is left behind element i
  abbrev behind : List ℕ → ℕ → List Element
  behind struck i = left_elements f table places struck (i + 1) (n - (i + 1))

  -- its children give what they give in the table
  reply_left : (bs : List Bool) (q struck : List ℕ) (i : ℕ)
      → let e = element_in f table places i in (reply (matches bs q) e (child_replies (matches bs q) (suc e.depth) (behind struck i))).decision ≡ (reply_at (matches bs q) table struck n i).decision
  unfolding reply_at replies_from element_in element_at
  reply_left bs q struck i =
      ap (λ rs. (reply (matches bs q) (element_at table i) rs).decision)
      (sym (replies_bare bs q (suc (depth_of table i)) (behind struck i)) ∙ ap (child_replies (matches bs q) (suc (depth_of table i))) (left_bare f table places struck (i + 1) (n - (i + 1))))

-- Flags that are set for rules alone leave no obligations where there were none
module _ (f : Bytes) (table : List Row) (places : List ElementPlaces) (n : ℕ) (leaves : Leaves table n) (struck : List ℕ) (rules : RulesStruck table struck n) (d : Decision) (c : ℕ) where
  within_bare : (es : List Element) → FirstWithin c (map bare es) → Bare d (suc c) es
  within_bare [] w = tt
  within_bare (e ∷ es) w = inl (omega arith)

  bare_left : (k j : ℕ) → j + k ≡ n → Bare d (suc c) (left_elements f table places [] j k) → Bare d (suc c) (left_elements f table places struck j k)
  unfolding left_elements element_in element_at
  bare_left zero j e b = tt
  bare_left (suc k) j e b = go (test (eqb (get_or struck j 0) 0)) b (bare_left k (j + 1) (omega arith))
    where
      ended : (get_or struck j 0 ≡ 0 → ⊥) → depth_of table j ≤ c → Bare d (suc c) (left_elements f table places struck (j + 1) k)
      ended flag low =
          within_bare (left_elements f table places struck (j + 1) k)
          (subst (FirstWithin c) (sym (left_bare f table places struck (j + 1) k)) (first_within (λ e. true) table struck n 0 leaves rules c k j (omega arith) (rules j (omega arith) flag) low))

      go : Test (eqb (get_or struck j 0) 0) → Bare d (suc c) (left_elements f table places [] j (suc k)) → (Bare d (suc c) (left_elements f table places [] (j + 1) k) → Bare d (suc c) (left_elements f table places struck (j + 1) k))
          → Bare d (suc c) (left_elements f table places struck j (suc k))
      go (passed x) (inl low) further = rw x (inl low)
      go (passed x) (inr (none, b)) further = rw x (inr (none, further b))
      go (failed x) (inl low) further = rw x (ended (eqb-false (get_or struck j 0) 0 x) (omega arith))
      go (failed x) (inr (none, b)) further = rw x (further b)

-- A rule of a policy, with it and without it
module _ (f : Bytes) (table : List Row) (places : List ElementPlaces) (n : ℕ) (struck : List ℕ) (rule up : ℕ) (over : Over table up rule) (earlier : up < rule) (inside : rule < n) (room : n ≤ length struck) (flag : get_or struck rule 0 ≡ 1) where
  live : get_or (kept struck rule) rule 0 ≡ 0
  live = get_or-set_same struck rule 0 0 (omega arith)

  left_behind : (k j : ℕ) → rule < j → left_elements f table places struck j k ≡ left_elements f table places (kept struck rule) j k
  unfolding left_elements
  left_behind zero j l = refl
  left_behind (suc k) j l = rw (get_or-set_other struck rule j 0 0 (omega arith), left_behind k (j + 1) (omega arith))

  left_gone : (k j : ℕ) → j + k ≡ n → up < j → j ≤ rule → Gone (depth_of table up) (left_elements f table places struck j k) (left_elements f table places (kept struck rule) j k)
  unfolding left_elements element_in element_at
  left_gone zero j e l m = absurd (omega arith)
  left_gone (suc k) j e l m = go (test (eqb j rule)) (test (eqb (get_or struck j 0) 0)) (left_gone k (j + 1) (omega arith) (omega arith))
    where
      go : Test (eqb j rule) → Test (eqb (get_or struck j 0) 0) → (j + 1 ≤ rule → Gone (depth_of table up) (left_elements f table places struck (j + 1) k) (left_elements f table places (kept struck rule) (j + 1) k))
          → Gone (depth_of table up) (left_elements f table places struck j (suc k)) (left_elements f table places (kept struck rule) j (suc k))
      go (passed x) _ further =
          let own : j ≡ rule = eqb-true j rule x in
          rw (own, live, flag, left_behind k (rule + 1) (omega arith)) (gone (element_in f table places rule) (left_elements f table places (kept struck rule) (rule + 1) k) (over.deeper rule earlier (omega arith)))
      go (failed x) (passed y) further =
          let other : j ≢ rule = eqb-false j rule x in
          rw (get_or-set_other struck rule j 0 0 other, y) (deeper (element_in f table places j) _ _ (over.deeper j l m) (further (omega arith)))
      go (failed x) (failed y) further =
          let other : j ≢ rule = eqb-false j rule x in
          rw (get_or-set_other struck rule j 0 0 other, y) (further (omega arith))

  -- the policy is left, and what stands before it is left alike
  left_same : (hit : Element → Bool) → get_or struck up 0 ≡ 0
      → Same hit (element_in f table places up ∷ behind f table places n struck up) (element_in f table places up ∷ behind f table places n (kept struck rule) up)
      → (k j : ℕ) → j + k ≡ n → j ≤ up → Same hit (left_elements f table places struck j k) (left_elements f table places (kept struck rule) j k)
  unfolding left_elements
  left_same hit stays here zero j e l = absurd (omega arith)
  left_same hit stays here (suc k) j e l = go (test (eqb j up)) (test (eqb (get_or struck j 0) 0)) (left_same hit stays here k (j + 1) (omega arith))
    where
      go : Test (eqb j up) → Test (eqb (get_or struck j 0) 0) → (j + 1 ≤ up → Same hit (left_elements f table places struck (j + 1) k) (left_elements f table places (kept struck rule) (j + 1) k))
          → Same hit (left_elements f table places struck j (suc k)) (left_elements f table places (kept struck rule) j (suc k))
      go (passed x) _ further =
          let own : j ≡ up = eqb-true j up x in
          let rest : n - (up + 1) ≡ k = omega arith in
          rw (own, get_or-set_other struck rule up 0 0 (omega arith), stays) (rw rest at here)
      go (failed x) (passed y) further =
          let other : j ≢ up = eqb-false j up x in
          rw (get_or-set_other struck rule j 0 0 (omega arith), y) (later (element_in f table places j) _ _ (further (omega arith)))
      go (failed x) (failed y) further =
          let other : j ≢ up = eqb-false j up x in
          rw (get_or-set_other struck rule j 0 0 (omega arith), y) (further (omega arith))

module _ (f : Bytes) (p : Policy) (h : read f ≡ given p) (table : List Row) (places : List ElementPlaces) (s : Shape) (is : p.elements ≡ reverse (elements_to f table places s.n)) where
  abbrev n : ℕ
  n = s.n

  -- an element among those of the file, and those behind it
  split : (up k j : ℕ) → j + k ≡ n → j ≤ up → up < n → (xs : List Element) × (left_elements f table places [] j k ≡ xs ++ element_in f table places up ∷ behind f table places n [] up)
  unfolding left_elements
  split up zero j e l m = absurd (omega arith)
  split up (suc k) j e l m = go (test (eqb j up)) (λ low. split up k (j + 1) (omega arith) low m)
    where
      go : Test (eqb j up) → (j + 1 ≤ up → (xs : List Element) × (left_elements f table places [] (j + 1) k ≡ xs ++ element_in f table places up ∷ behind f table places n [] up))
          → (xs : List Element) × (left_elements f table places [] j (suc k) ≡ xs ++ element_in f table places up ∷ behind f table places n [] up)
      go (passed x) further =
          let own : j ≡ up = eqb-true j up x in
          let rest : n - (up + 1) ≡ k = omega arith in
          ([], rw (own, rest))
      go (failed x) further =
          let other : j ≢ up = eqb-false j up x in
          let (xs, at) = further (omega arith) in
          (element_in f table places j ∷ xs, ap (λ es. element_in f table places j ∷ es) at)

  -- behind a policy its rules, which have no obligations
  rules_bare : (up : ℕ) → up < n → (element_in f table places up).kind ≡ policy → (d : Decision) → Bare d (suc (element_in f table places up).depth) (behind f table places n [] up)
  rules_bare up l kind d =
      let (xs, at) = split up n 0 (omega arith) (omega arith) l in
      policy_bare f p h xs (element_in f table places up) (behind f table places n [] up) (is ∙ sym (all_elements f table places [] n (λ k l. refl)) ∙ at) kind d

  -- what stands over another element is no rule
  group_over : Leaves table n → (up i : ℕ) → Over table up i → up < i → i < n → 2 ≤ word_number table up
  group_over leaves up i over earlier inside = go (test (ltb (word_number table up) 2))
    where
      go : Test (ltb (word_number table up) 2) → 2 ≤ word_number table up
      go (passed x) = absurd (omega (arith, leaves up (omega arith) (ltb-true (word_number table up) 2 x), over.deeper (up + 1) (omega arith) (omega arith)))
      go (failed x) = ltb-false (word_number table up) 2 x

  module _ (struck : List ℕ) (rule : ℕ) (aside : Aside table struck s rule) (bs : List Bool) (q : List ℕ) where
    abbrev hit : Element → Bool
    hit = matches bs q

    -- the element over the rule decides alike with it and without it
    module _ (up : ℕ) (over : Over table up rule) (earlier : up < rule) (one_deeper : depth_of table rule ≡ suc (depth_of table up)) (decides : (reply_at hit table struck n up).decision ≡ (reply_at hit table (kept struck rule) n up).decision) where
      stays : get_or struck up 0 ≡ 0
      stays = go (test (eqb (get_or struck up 0) 0))
        where
          go : Test (eqb (get_or struck up 0) 0) → get_or struck up 0 ≡ 0
          go (passed x) = eqb-true (get_or struck up 0) 0 x
          go (failed x) =
              let group = group_over aside.ready.leaves up rule over earlier aside.element in
              absurd (omega (arith, aside.ready.rules up (omega (arith, aside.element)) (eqb-false (get_or struck up 0) 0 x)))

      policy_same : Same hit (element_in f table places up ∷ behind f table places n struck up) (element_in f table places up ∷ behind f table places n (kept struck rule) up)
      unfolding element_in element_at
      policy_same =
          let inside : up < n = omega (arith, aside.element) in
          let kind = policy_over f p h table places n is up rule over one_deeper earlier aside.element aside.effect in
          let less = left_gone f table places n struck rule up over earlier aside.element aside.ready.flags aside.flag (n - (up + 1)) (up + 1) (omega arith) (omega arith) (omega arith) in
          let none : (d : Decision) → Bare d (suc (depth_of table up)) (behind f table places n (kept struck rule) up) =
          λ d. bare_left f table places n aside.ready.leaves (kept struck rule) aside.before.rules d (depth_of table up) (n - (up + 1)) (up + 1) (omega arith) (rules_bare up inside kind d) in
          parent (element_in f table places up) _ _ less none (reply_left f table places n bs q struck up ∙ decides ∙ sym (reply_left f table places n bs q (kept struck rule) up))

      unchanged_over : outcome_left hit f table places (kept struck rule) n ≡ outcome_left hit f table places struck n
      unchanged_over =
          let some = some_element f p h table places n is in
          let top = top_depth f p h table places n is in
          let same = left_same f table places n struck rule up over earlier aside.element aside.ready.flags aside.flag hit stays policy_same n 0 (omega arith) (omega arith) in
          sym (outcome_left_lem f table places (kept struck rule) n some aside.before.stays top bs q)
          ∙ sym (same_outcome_lem hit (left_elements f table places struck 0 n) (left_elements f table places (kept struck rule) 0 n) same)
          ∙ outcome_left_lem f table places struck n some aside.ready.stays top bs q

    -- a rule that does not match: the element over it combines alike
    struck_is : set (kept struck rule) rule 1 ≡ struck
    struck_is = set-set struck rule 0 1 ∙ ap (set struck rule) (sym aside.flag) ∙ set-get_or struck rule 0

    decides_off : hit (element_at table rule) ≡ false → (up : ℕ) → 2 ≤ word_number table up → up < rule → (reply_at hit table struck n up).decision ≡ (reply_at hit table (kept struck rule) n up).decision
    unfolding reply_at element_at
    decides_off off up group earlier =
        let a = algorithm_number (word_at (word_number table up)) in
        let word : word_at (word_number table up) ≡ algorithm_at a = sym (group_word (word_number table up) group) in
        let children : List ℕ → List Reply = λ z. replies_from hit table z n (suc (depth_of table up)) (up + 1) in
        let live = get_or-set_same struck rule 0 0 (omega (arith, aside.element, aside.ready.flags)) in
        let same = replies_without hit table (kept struck rule) n rule aside.before.leaves aside.before.rules aside.before.flags aside.element live aside.effect off a (suc (depth_of table up)) (up + 1) (omega arith) in
        ap (λ d. cond (hit (element_at table up)) d not_applicable)
        (ap (λ w. combined w (children struck)) word
        ∙ subst (λ z. combined (algorithm_at a) (children z) ≡ combined (algorithm_at a) (children (kept struck rule))) struck_is same
        ∙ ap (λ w. combined w (children (kept struck rule))) (sym word))

    unchanged_off : hit (element_at table rule) ≡ false → outcome_left hit f table places (kept struck rule) n ≡ outcome_left hit f table places struck n
    unchanged_off off =
        let first : rule ≢ 0 = λ e. omega (arith, ap (word_number table) e, aside.effect, aside.ready.root) in
        let x = parent_of f p h table places n is rule aside.element (omega arith) in
        let group = group_over aside.ready.leaves x.up rule x.over x.earlier aside.element in
        unchanged_over x.up x.over x.earlier x.one_deeper (decides_off off x.up group x.earlier)

  pub steady : ((i : ℕ) → i < n → Obliged f places i) → Steady f places table s
  unfolding hit_of moved_at
  steady obliged =
      record {
        obliged = obliged;
        unmoved = λ struck rule up aside under m l same.
            unchanged_over struck rule aside (severals_of s) (request_of (counts_of s) m) up under.above under.earlier under.one_deeper (sym (same_decision _ _ (not-false _ same)));
        unmatched = λ struck rule aside m l off. unchanged_off struck rule aside (severals_of s) (request_of (counts_of s) m) off;
      }
