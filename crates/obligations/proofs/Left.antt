-- What a request gets from the elements that flags leave is the meaning's outcome of them.
use Prim.Native.Nat.{ℕ, zero, suc, ◌+◌, ◌-◌, ◌<◌}
use mathlib.Core.Path.{◌≡◌, refl, sym, ap, ap₂, ◌∙◌}
use mathlib.Core.Bool.{Bool, true, false, cond}
use mathlib.Core.List.{List, [], ◌∷◌, ◌++◌, map, reverse, reverse-cons}
use native.Mathlib.Numerals.{add-one}
use native.Mathlib.Omega.{arith}
use lib.Dec.{eqb}
use lib.ListN.{length, take, drop, get_or}
use borrow.Author.Tests.{eq-eqb, eqb-false}
use Rattle.meaning.specs.Text.{Bytes, gathered, counting}
use Rattle.meaning.specs.Model.{unused, obligations_of, Policy, severals}
use Rattle.meaning.specs.Deciding.{matches, child_replies, asked, first_decision, obligations_from, outcome_of, decide}
use Rattle.laws.proofs.Types.{Decision, Obligation, Element}
use Rattle.laws.proofs.Bools.{Test, passed, failed, test}
use Rattle.laws.proofs.Chains.{nones, chain_from, marked, chain_obligations}
use Rattle.table.specs.declared.Row.{Row}
use Rattle.table.specs.Rows.{depth_of, element_at}
use Rattle.table.specs.Tree.{left}
use Rattle.decisions.specs.Replies.{reply_at}
use Rattle.decisions.proofs.Children.{first_left}
use Rattle.chains.specs.Chain.{alike, chained}
use Rattle.chains.proofs.Chained.{marks_left, chain_is, chain_struck}
use Rattle.layout.specs.declared.ElementPlaces.{ElementPlaces}
use Rattle.layout.specs.Places.{obligation_end, obligation_at, obligations_in, element_in, elements_to}
use Rattle.layout.proofs.Laws.{bare, replies_bare, decision_bare}
use Rattle.obligations.specs.Given.{spelling, own_text, given_text, left_elements, outcome_left}
use Rattle.obligations.proofs.Texts.{either_none, own_undecided, text_undecided}

-- Marks look at neither kinds nor names nor obligations
nones_bare : (es : List Element) → nones (map bare es) ≡ nones es
nones_bare [] = refl
nones_bare (e ∷ es) = ap (λ bs. false ∷ bs) (nones_bare es)

module _ (bs : List Bool) (q : List ℕ) (d : Decision) where
  chain_bare : (k : ℕ) (who : List Bool) (es : List Element) → chain_from (matches bs q) d k who (map bare es) ≡ chain_from (matches bs q) d k who es
  chain_bare k who [] = refl
  chain_bare k who (e ∷ es) =
      rw (replies_bare bs q (suc k) es, nones_bare es, chain_bare k who es, chain_bare k (drop 1 who) es, chain_bare (suc k) (asked e.word (child_replies (matches bs q) (suc k) es)) es)

-- The elements that flags leave
module _ (f : Bytes) (table : List Row) (places : List ElementPlaces) (struck : List ℕ) where
  -- an element's obligations, by the tests of its two places
  abbrev some_of : ℕ → (a b : Bool) → List Obligation
  some_of i a b = cond a [] (obligation_at f places i 0 ∷ cond b [] (obligation_at f places i 1 ∷ []))

  obligations_of_lem : (i : ℕ) → obligations_of (element_in f table places i) ≡ obligations_in f places i
  unfolding element_in obligations_in
  obligations_of_lem i = go (eqb (obligation_end places i 0) 0) (eqb (obligation_end places i 1) 0)
    where
      go : (a b : Bool) → let os = some_of i a b in take (length os) (get_or os 0 unused ∷ get_or os 1 unused ∷ []) ≡ os
      go true b = refl
      go false true = refl
      go false false = refl

  -- as the table has them
  pub left_bare : (i m : ℕ) → map bare (left_elements f table places struck i m) ≡ left table struck i m
  unfolding left_elements left element_in element_at
  left_bare i zero = refl
  left_bare i (suc m) = go (test (eqb (get_or struck i 0) 0)) (left_bare (i + 1) m)
    where
      go : Test (eqb (get_or struck i 0) 0) → map bare (left_elements f table places struck (i + 1) m) ≡ left table struck (i + 1) m → map bare (left_elements f table places struck i (suc m)) ≡ left table struck i (suc m)
      go (passed x) later = rw x (ap (λ es. element_at table i ∷ es) later)
      go (failed x) later = rw x later

  -- the obligations of those that are marked, where no struck element is
  marked_left : (d : Decision) (marks : ℕ → Bool) → ((j : ℕ) → (get_or struck j 0 ≡ 0 → ⊥) → marks j ≡ false) → (i m : ℕ) → marked d (marks_left marks struck i m) (left_elements f table places struck i m) ≡ gathered (own_text d marks f places) (counting i m)
  unfolding left_elements
  marked_left d marks none i zero = refl
  marked_left d marks none i (suc m) = go (test (eqb (get_or struck i 0) 0)) (rw (add-one i) at (marked_left d marks none (i + 1) m))
    where
      go : Test (eqb (get_or struck i 0) 0) → marked d (marks_left marks struck (suc i) m) (left_elements f table places struck (suc i) m) ≡ gathered (own_text d marks f places) (counting (suc i) m)
          → marked d (marks_left marks struck i (suc m)) (left_elements f table places struck i (suc m)) ≡ gathered (own_text d marks f places) (counting i (suc m))
      go (passed x) later = rw (x, add-one i) (ap₂ (λ os t. cond (marks i) (spelling d os) [] ++ t) (obligations_of_lem i) later)
      go (failed x) later = rw (x, add-one i, none i (eqb-false (get_or struck i 0) 0 x)) later

  -- and none where none come with the decision
  none_marked : (d : Decision) → alike d d ≡ false → (bs : List Bool) (i m : ℕ) → marked d bs (left_elements f table places struck i m) ≡ []
  unfolding left_elements
  none_marked d e [] i m = refl
  none_marked d e (b ∷ bs) i zero = refl
  none_marked d e (b ∷ bs) i (suc m) = go (test (eqb (get_or struck i 0) 0)) (none_marked d e bs (i + 1) m) (none_marked d e (b ∷ bs) (i + 1) m)
    where
      go : Test (eqb (get_or struck i 0) 0) → marked d bs (left_elements f table places struck (i + 1) m) ≡ [] → marked d (b ∷ bs) (left_elements f table places struck (i + 1) m) ≡ [] → marked d (b ∷ bs) (left_elements f table places struck i (suc m)) ≡ []
      go (passed x) here later = rw (x, obligations_of_lem i, own_undecided d f places e i, either_none b) here
      go (failed x) here later = rw x later

  -- where nothing is struck, all elements
  left_more : (i m : ℕ) → ((k : ℕ) → k < i + suc m → get_or struck k 0 ≡ 0) → left_elements f table places struck i (suc m) ≡ left_elements f table places struck i m ++ (element_in f table places (i + m) ∷ [])
  unfolding left_elements
  left_more i zero live = let here : i + 0 ≡ i = omega arith in rw (eq-eqb (get_or struck i 0) 0 (live i (omega arith)), here)
  left_more i (suc m) live =
      let next : (i + 1) + m ≡ i + suc m = omega arith in
      rw (eq-eqb (get_or struck i 0) 0 (live i (omega arith)), left_more (i + 1) m (λ k l. live k (omega arith)), next)

  pub all_elements : (n : ℕ) → ((k : ℕ) → k < n → get_or struck k 0 ≡ 0) → left_elements f table places struck 0 n ≡ reverse (elements_to f table places n)
  unfolding left_elements elements_to
  all_elements zero live = refl
  all_elements (suc n) live =
      let here : 0 + n ≡ n = omega arith in
      left_more 0 n (λ k l. live k (omega arith)) ∙ rw (here, all_elements n (λ k l. live k (omega arith)), reverse-cons)

-- The outcome, of elements of which the first is left and stands at depth 0
module _ (f : Bytes) (table : List Row) (places : List ElementPlaces) (struck : List ℕ) (n : ℕ) (some : 0 < n) (live : get_or struck 0 0 ≡ 0) (top : depth_of table 0 ≡ 0) (bs : List Bool) (q : List ℕ) where
  abbrev hit : Element → Bool
  hit = matches bs q

  abbrev es : List Element
  es = left_elements f table places struck 0 n

  abbrev d : Decision
  d = first_decision hit (left table struck 0 n)

  decision_left : first_decision hit es ≡ d
  decision_left = sym (decision_bare bs q es) ∙ ap (first_decision hit) (left_bare f table places struck 0 n)

  first_is : (reply_at hit table struck n 0).decision ≡ d
  first_is = let whole : n - 0 ≡ n = omega arith in sym (first_left hit table struck n 0 some live) ∙ ap (λ m. first_decision hit (left table struck 0 m)) whole

  -- the meaning's marks are the chained places
  marks_left_lem : alike d d ≡ true → chain_from hit d 0 (true ∷ []) es ≡ marks_left (chained hit table struck n) struck 0 n
  marks_left_lem a =
      let chain = chain_is hit table struck n some live (ap (λ e. alike e e) first_is ∙ a) in
      sym (chain_bare bs q d 0 (true ∷ []) es)
      ∙ ap (chain_from hit d 0 (true ∷ [])) (left_bare f table places struck 0 n)
      ∙ ap₂ (λ e k. chain_from hit e k (true ∷ []) (left table struck 0 n)) (sym first_is) (sym top)
      ∙ chain

  obligations_left : obligations_from hit d 0 (true ∷ []) es ≡ given_text d (chained hit table struck n) f places n
  unfolding given_text
  obligations_left = chain_obligations hit d 0 (true ∷ []) es ∙ go (test (alike d d))
    where
      go : Test (alike d d) → marked d (chain_from hit d 0 (true ∷ []) es) es ≡ gathered (own_text d (chained hit table struck n) f places) (counting 0 n)
      go (passed a) = ap (λ ms. marked d ms es) (marks_left_lem a) ∙ marked_left f table places struck d (chained hit table struck n) (chain_struck hit table struck n) 0 n
      go (failed a) = none_marked f table places struck d a (chain_from hit d 0 (true ∷ []) es) 0 n ∙ sym (text_undecided d f places (chained hit table struck n) n a)

  -- what a request gets from the elements that are left
  pub outcome_left_lem : outcome_of hit es ≡ outcome_left hit f table places struck n
  outcome_left_lem = λ i. record { decision = decision_left i; obligations = (ap (λ e. obligations_from hit e 0 (true ∷ []) es) decision_left ∙ obligations_left) i }

-- what it gets from a policy whose elements they are, where nothing is struck
pub outcome_whole : (f : Bytes) (table : List Row) (places : List ElementPlaces) (struck : List ℕ) (n : ℕ) (p : Policy) (q : List ℕ) → p.elements ≡ reverse (elements_to f table places n) → ((k : ℕ) → k < n → get_or struck k 0 ≡ 0) → 0 < n → depth_of table 0 ≡ 0
    → decide p q ≡ outcome_left (matches (severals p.attributes) q) f table places struck n
outcome_whole f table places struck n p q is live some top =
    ap (outcome_of (matches (severals p.attributes) q)) (is ∙ sym (all_elements f table places struck n live))
    ∙ outcome_left_lem f table places struck n some (live 0 some) top (severals p.attributes) q
