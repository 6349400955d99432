-- The elements of an accepted file, by their places: each stands rightly behind those before it.
use Prim.Native.Nat.{ℕ, zero, suc, ◌+◌, ◌≤◌, ◌<◌}
use mathlib.Core.Path.{◌≡◌, refl, sym, ap, ap₂, ◌∙◌, subst}
use mathlib.Core.Logic.{◌≢◌}
use mathlib.Core.Bool.{true, false}
use mathlib.Core.List.{List, [], ◌∷◌, map, reverse, reverse_aux}
use native.Mathlib.Omega.{arith}
use lib.Dec.{eqb, ltb}
use lib.ListN.{length, get_or, length-reverse}
use borrow.Author.Tests.{eqb-true, eqb-false, lt-ltb, le-ltb, ltb-true, ltb-false}
use Rattle.meaning.specs.Text.{Bytes, same}
use Rattle.meaning.specs.Model.{kind_text, Policy, given}
use Rattle.meaning.specs.Reading.{read}
use Rattle.meaning.specs.Segments.{depth_at}
use Rattle.meaning.specs.Claims.Texts.{All, Each}
use Rattle.meaning.specs.Claims.PolicyFile.{parent_kind, HasParent, Placed}
use Rattle.meaning.specs.Claims.Trimming.{is_rule}
use Rattle.laws.proofs.Types.{Kind, set, policy, rule, Element}
use Rattle.laws.proofs.Bools.{Test, passed, failed, test, contradiction}
use Rattle.laws.proofs.WellFormed.{well_formed}
use Rattle.laws.proofs.Children.{accepted_steps, no_deeper}
use Rattle.laws.proofs.ElementKinds.{is_effect, WordFits, kinds}
use Rattle.laws.proofs.Policies.{parent_next, parent_farther}
use Rattle.table.specs.declared.Row.{Row}
use Rattle.table.specs.Rows.{word_at, depth_of, element_at, word_number}
use Rattle.table.specs.Tree.{Leaves, Over}
use Rattle.layout.specs.declared.ElementPlaces.{ElementPlaces}
use Rattle.layout.specs.Places.{element_in, elements_to}
use Rattle.layout.proofs.Laws.{elements_length}
use Rattle.trimmed_text.specs.Flags.{rule_in}
use Rattle.trimmed_text.proofs.Table.{element_at_lem}

-- what holds of each element of a list turned round, behind some of them
each_behind : {A : Type 0} (P : List A → A → Type 0) (before xs : List A) → Each P [] (reverse_aux before xs) → Each P before xs
each_behind P [] xs e = e
each_behind P (b ∷ before) xs e = (each_behind P before (b ∷ xs) e).1

-- an effect, by the number of its word
effect_number : (w : ℕ) → ltb w 2 ≡ is_effect (word_at w)
effect_number zero = refl
effect_number (suc zero) = refl
effect_number (suc (suc zero)) = refl
effect_number (suc (suc (suc zero))) = refl
effect_number (suc (suc (suc (suc zero)))) = refl
effect_number (suc (suc (suc (suc (suc w))))) = le-ltb (suc (suc (suc (suc (suc w))))) 2 (omega arith)

words_alike : (es : List Element) → All WordFits es → map (λ e. is_effect e.word) es ≡ map is_rule es
words_alike [] fit = refl
words_alike (e ∷ es) fit = ap₂ (λ b bs. b ∷ bs) fit.0 (words_alike es fit.1)

module _ (f : Bytes) (table : List Row) (places : List ElementPlaces) where
  each_at : (P : List Element → Element → Type 0) (n : ℕ) (xs : List Element) → Each P [] (reverse_aux (elements_to f table places n) xs) → (i : ℕ) → i < n → P (elements_to f table places i) (element_in f table places i)
  unfolding elements_to
  each_at P zero xs e i l = absurd (omega arith)
  each_at P (suc n) xs e i l = go (test (eqb i n)) (each_at P n (element_in f table places n ∷ xs) e i)
    where
      go : Test (eqb i n) → (i < n → P (elements_to f table places i) (element_in f table places i)) → P (elements_to f table places i) (element_in f table places i)
      go (passed x) earlier = rw (eqb-true i n x) (each_behind P (elements_to f table places n) (element_in f table places n ∷ xs) e).0
      go (failed x) earlier = let other : i ≢ n = eqb-false i n x in earlier (omega arith)

module _ (f : Bytes) (p : Policy) (h : read f ≡ given p) (table : List Row) (places : List ElementPlaces) (n : ℕ) (is : p.elements ≡ reverse (elements_to f table places n)) where
  pub placed_at : (i : ℕ) → i < n → Placed (elements_to f table places i) (element_in f table places i)
  placed_at = each_at f table places Placed n [] (subst (Each Placed []) is ((well_formed f p).0 h).good.placed)

  size : length p.elements ≡ n
  size = ap length is ∙ length-reverse (elements_to f table places n) ∙ elements_length f table places n

  -- there is a first one, at depth 0
  pub some_element : 0 < n
  some_element = omega (arith, ((well_formed f p).0 h).some_element, size)

  pub top_depth : depth_of table 0 ≡ 0
  unfolding element_in elements_to element_at
  top_depth = (placed_at 0 some_element).0

  -- a rule's word is an effect
  pub effect_is : (i : ℕ) → i < n → ltb (word_number table i) 2 ≡ rule_in p.elements i
  unfolding element_in element_at
  effect_is i l = effect_number (word_number table i) ∙ sym (element_at_lem f table places n p is (λ e. is_effect e.word) false i l) ∙ ap (λ bs. get_or bs i false) (words_alike p.elements (kinds f p h).words_fit)

  pub root_word : 0 < n → 2 ≤ word_number table 0
  root_word l = ltb-false (word_number table 0) 2 (effect_is 0 l ∙ (kinds f p h).root)

  -- a rule of the table has no children, as none of the file has
  pub leaves : Leaves table n
  unfolding element_in element_at
  leaves k l effect =
      let depth_is : (i : ℕ) → i < n → depth_at p.elements i ≡ depth_of table i = element_at_lem f table places n p is (λ e. e.depth) 0 in
      let is_rule : rule_in p.elements k ≡ true = sym (effect_is k (omega arith)) ∙ lt-ltb (word_number table k) 2 effect in
      let low = no_deeper p.elements (accepted_steps f p h) k (omega (arith, size)) is_rule in
      let next : k + 1 ≡ suc k = omega arith in
      rw (next, ← depth_is (suc k) (omega arith), ← depth_is k (omega arith)) low

  rule_kind : (i : ℕ) → i < n → word_number table i < 2 → (element_in f table places i).kind ≡ rule
  rule_kind i l effect = go (element_in f table places i).kind (sym (element_at_lem f table places n p is is_rule false i l) ∙ sym (effect_is i l) ∙ lt-ltb (word_number table i) 2 effect)
    where
      go : (k : Kind) → same (kind_text k) (kind_text rule) ≡ true → k ≡ rule
      go set e = contradiction e refl
      go policy e = contradiction e refl
      go rule e = refl

  -- an element behind the first has a parent, and is at most one deeper than the one before it
  has_parent : (i : ℕ) → 0 < i → i < n → (1 ≤ depth_of table i) × HasParent (elements_to f table places i) (element_in f table places i).kind (depth_of table i)
  unfolding element_in elements_to element_at
  has_parent zero behind l = absurd (omega arith)
  has_parent (suc i) behind l = let (deep, step, has) = placed_at (suc i) l in (deep, has)

  step_at : (i : ℕ) → suc i < n → depth_of table (suc i) ≤ suc (depth_of table i)
  unfolding element_in elements_to element_at
  step_at i l = let (deep, step, has) = placed_at (suc i) l in step

  -- the element over a child, one less deep, is its parent
  pub record Parent (child : ℕ) : Type 0 where
    pub up : ℕ
    pub over : Over table up child
    pub earlier : up < child
    pub one_deeper : depth_of table child ≡ suc (depth_of table up)

  pub parent_of : (child : ℕ) → child < n → 0 < child → Parent child
  parent_of child inside behind = search child (omega arith) (λ m a b. let own : m ≡ child = omega arith in omega (arith, ap (depth_of table) own))
    where
      search : (j : ℕ) → j ≤ child → ((m : ℕ) → j ≤ m → m ≤ child → depth_of table child ≤ depth_of table m) → Parent child
      search zero l none = absurd (omega (arith, (has_parent child behind inside).0, top_depth, none 0 (omega arith) (omega arith)))
      search (suc j) l none = go (test (ltb (depth_of table j) (depth_of table child))) (search j (omega arith))
        where
          further : depth_of table child ≤ depth_of table j → (m : ℕ) → j ≤ m → m ≤ child → Test (eqb m j) → depth_of table child ≤ depth_of table m
          further low m a b (passed x) = omega (arith, ap (depth_of table) (eqb-true m j x))
          further low m a b (failed x) = let other : m ≢ j = eqb-false m j x in none m (omega arith) b

          go : Test (ltb (depth_of table j) (depth_of table child)) → (((m : ℕ) → j ≤ m → m ≤ child → depth_of table child ≤ depth_of table m) → Parent child) → Parent child
          go (passed x) later =
              let less : depth_of table j < depth_of table child = ltb-true (depth_of table j) (depth_of table child) x in
              record {
                up = j;
                over = record { within = omega arith; deeper = λ m a b. omega (arith, none m (omega arith) b) };
                earlier = omega arith;
                one_deeper = omega (arith, step_at j (omega arith), none (suc j) (omega arith) (omega arith));
              }
          go (failed x) later = later (λ m a b. further (ltb-false (depth_of table j) (depth_of table child) x) m a b (test (eqb m j)))

  -- and of the kind that may hold it
  module _ (up child : ℕ) (over : Over table up child) (one_deeper : depth_of table child ≡ suc (depth_of table up)) where
    kind_over : (k : Kind) (j : ℕ) → up < j → j ≤ child → HasParent (elements_to f table places j) k (depth_of table child) → (element_in f table places up).kind ≡ parent_kind k
    unfolding elements_to element_in element_at
    kind_over k zero l m has = absurd (omega arith)
    kind_over k (suc j) l m has = go (test (eqb j up)) (λ a. kind_over k j a (omega arith))
      where
        own : Element
        own = element_in f table places j

        go : Test (eqb j up) → (up < j → HasParent (elements_to f table places j) k (depth_of table child) → (element_in f table places up).kind ≡ parent_kind k) → (element_in f table places up).kind ≡ parent_kind k
        go (passed x) later =
            let here = eqb-true j up x in
            ap (λ i. (element_in f table places i).kind) (sym here) ∙ parent_next own (elements_to f table places j) k (depth_of table child) has (omega (arith, ap (depth_of table) here))
        go (failed x) later =
            let other : j ≢ up = eqb-false j up x in
            later (omega arith) (parent_farther own (elements_to f table places j) k (depth_of table child) has (omega (arith, over.deeper j (omega arith) (omega arith))))

    -- of a rule a policy
    pub policy_over : up < child → child < n → word_number table child < 2 → (element_in f table places up).kind ≡ policy
    policy_over earlier inside effect = kind_over rule child earlier (omega arith) (rw (rule_kind child inside effect) at (has_parent child (omega arith) inside).1)
