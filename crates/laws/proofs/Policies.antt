-- Below a policy stand its rules alone, and they have no obligations: where a rule's policy decides the same without the rule, so
-- does the file, with the same obligations.
use mathlib.Core.Path.{◌≡◌, refl, sym, ap, ◌∙◌, subst}
use mathlib.Core.Logic.{◌≢◌, ◌⊎◌, inl, inr}
use Prim.Native.Nat.{ℕ, suc, ◌<◌}
use native.Mathlib.Omega.{arith}
use mathlib.Core.Bool.{Bool}
use mathlib.Core.List.{List, [], ◌∷◌, ◌++◌}
use lib.Dec.{eqb, leb}
use borrow.Author.Tests.{leb-true, leb-false, eqb-true, eqb-false}
use Rattle.meaning.specs.Text.{Bytes}
use Rattle.meaning.specs.Model.{obligations_of, Policy, given}
use Rattle.meaning.specs.Reading.{read}
use Rattle.meaning.specs.Deciding.{reply, child_replies, outcome_of}
use Rattle.meaning.specs.Claims.Texts.{All, Each}
use Rattle.meaning.specs.Claims.PolicyFile.{parent_kind, HasParent, Placed}
use Rattle.laws.proofs.Types.{Kind, set, policy, rule, Decision, Element}
use Rattle.laws.proofs.Bools.{Test, passed, failed, test, never}
use Rattle.laws.proofs.Bounds.{GoodElement, rule_bare, bounded}
use Rattle.laws.proofs.WellFormed.{well_formed}
use Rattle.laws.proofs.Obligations.{Bare, no_own}
use Rattle.laws.proofs.Unchanged.{Gone, Same, parent, later, same_outcome_lem}

-- An element before another is its parent, or its parent is farther
pub parent_next : (x : Element) (xs : List Element) (k : Kind) (d : ℕ) → HasParent (x ∷ xs) k d → suc x.depth ≡ d → x.kind ≡ parent_kind k
parent_next x xs k d h i = go h.nearer h.among h.nearest
  where
    go : (nearer : List Element) → x ∷ xs ≡ nearer ++ (h.parent ∷ h.farther) → All (λ y. suc y.depth ≢ d) nearer → x.kind ≡ parent_kind k
    go [] e a = let own : x ≡ h.parent = cc in ap (λ y. y.kind) own ∙ h.right_kind
    go (y ∷ ys) e a = let own : y ≡ x = cc in absurd (a.0 (ap (λ z. suc z.depth) own ∙ i))

pub parent_farther : (x : Element) (xs : List Element) (k : Kind) (d : ℕ) → HasParent (x ∷ xs) k d → suc x.depth ≢ d → HasParent xs k d
parent_farther x xs k d h other = go h.nearer h.among h.nearest
  where
    go : (nearer : List Element) → x ∷ xs ≡ nearer ++ (h.parent ∷ h.farther) → All (λ y. suc y.depth ≢ d) nearer → HasParent xs k d
    go [] e a = let own : x ≡ h.parent = cc in absurd (other (ap (λ y. suc y.depth) own ∙ h.one_less))
    go (y ∷ ys) e a =
        let rest : xs ≡ ys ++ (h.parent ∷ h.farther) = cc in
        record { nearer = ys; parent = h.parent; farther = h.farther; among = rest; nearest = a.1; one_less = h.one_less; right_kind = h.right_kind }

under_policy : (k : Kind) → policy ≡ parent_kind k → k ≡ rule
under_policy set e = never cc
under_policy policy e = never cc
under_policy rule e = refl

under_rule : (k : Kind) → rule ≡ parent_kind k → ⊥
under_rule set e = never cc
under_rule policy e = never cc
under_rule rule e = never cc

-- Behind a policy and rules of it: rules of it, up to an element that is no deeper
abbrev Under : ℕ → Element → Type 0
Under n e = (e.depth ≡ suc n) × (e.kind ≡ rule)

abbrev RulesBelow : ℕ → List Element → Type 0
RulesBelow n [] = Unit {0}
RulesBelow n (e ∷ es) = (e.depth < suc n) ⊎ (Under n e × RulesBelow n es)

module _ (top : Element) (is_policy : top.kind ≡ policy) (far : List Element) where
  -- past the rules the policy is the parent
  parent_kind_lem : (near : List Element) (k : Kind) → All (Under top.depth) near → HasParent (near ++ top ∷ far) k (suc top.depth) → k ≡ rule
  parent_kind_lem [] k a h = under_policy k (sym is_policy ∙ parent_next top far k (suc top.depth) h refl)
  parent_kind_lem (x ∷ near) k a h =
      let other : suc x.depth ≢ suc top.depth = omega (arith, a.0.0) in
      parent_kind_lem near k a.1 (parent_farther x (near ++ top ∷ far) k (suc top.depth) h other)

  under : (near : List Element) (e : Element) → All (Under top.depth) near → Placed (near ++ top ∷ far) e → top.depth < e.depth → Under top.depth e
  under [] e a (some-depth, step, h) l =
      let d : e.depth ≡ suc top.depth = omega arith in
      (d, parent_kind_lem [] e.kind tt (subst (HasParent (top ∷ far) e.kind) d h))
  under (x ∷ near) e a (some-depth, step, h) l = go (test (eqb e.depth (suc top.depth)))
    where
      go : Test (eqb e.depth (suc top.depth)) → Under top.depth e
      go (passed i) =
          let d = eqb-true e.depth (suc top.depth) i in
          (d, parent_kind_lem (x ∷ near) e.kind a (subst (HasParent (x ∷ near ++ top ∷ far) e.kind) d h))
      go (failed i) =
          let other : e.depth ≢ suc top.depth = eqb-false e.depth (suc top.depth) i in
          let own : suc x.depth ≡ e.depth = omega (arith, step, a.0.0) in
          absurd (under_rule e.kind (sym a.0.1 ∙ parent_next x (near ++ top ∷ far) e.kind e.depth h own))

  rules_below : (near rest : List Element) → All (Under top.depth) near → Each Placed (near ++ top ∷ far) rest → RulesBelow top.depth rest
  rules_below near [] a w = tt
  rules_below near (e ∷ es) a w = go (test (leb e.depth top.depth)) (λ u. rules_below (e ∷ near) es (u, a) w.1)
    where
      go : Test (leb e.depth top.depth) → (Under top.depth e → RulesBelow top.depth es) → RulesBelow top.depth (e ∷ es)
      go (passed i) more = inl (omega (arith, leb-true e.depth top.depth i))
      go (failed i) more = let u = under near e a w.0 (leb-false e.depth top.depth i) in inr (u, more u)

-- Rules have no obligations
abbrev RuleBare : Element → Type 0
RuleBare e = e.kind ≡ rule → obligations_of e ≡ []

rules_bare : (f : Bytes) (p : Policy) → read f ≡ given p → All RuleBare p.elements
rules_bare f p h = go p.elements (bounded f p h).elements_good
  where
    go : (es : List Element) → All (GoodElement p.attributes) es → All RuleBare es
    go [] g = tt
    go (e ∷ es) g = (λ r. rw (rule_bare p.attributes e g.0 r), go es g.1)

bare_below : (d : Decision) (n : ℕ) (es : List Element) → All RuleBare es → RulesBelow n es → Bare d (suc n) es
bare_below d n [] a r = tt
bare_below d n (e ∷ es) a (inl low) = inl low
bare_below d n (e ∷ es) a (inr (u, r)) = inr (no_own d e (a.0 u.1), bare_below d n es a.1 r)

-- Every policy of an accepted file, wherever it stands
placed_behind : (before xs : List Element) (top : Element) (rest : List Element) → Each Placed before (xs ++ top ∷ rest) → (far : List Element) × Each Placed (top ∷ far) rest
placed_behind before [] top rest w = (before, w.1)
placed_behind before (x ∷ xs) top rest w = placed_behind (x ∷ before) xs top rest w.1

all_behind : (P : Element → Type 0) (xs : List Element) (top : Element) (rest : List Element) → All P (xs ++ top ∷ rest) → All P rest
all_behind P [] top rest a = a.1
all_behind P (x ∷ xs) top rest a = all_behind P xs top rest a.1

module _ (f : Bytes) (p : Policy) (h : read f ≡ given p) (xs : List Element) (top : Element) (rest : List Element) (e : p.elements ≡ xs ++ top ∷ rest) (k : top.kind ≡ policy) where
  pub policy_bare : (d : Decision) → Bare d (suc top.depth) rest
  policy_bare d =
      let (far, w) = placed_behind [] xs top rest (subst (Each Placed []) e ((well_formed f p).0 h).good.placed) in
      bare_below d top.depth rest (all_behind RuleBare xs top rest (subst (All RuleBare) e (rules_bare f p h))) (rules_below top k far [] rest tt w)

  -- of the file and the same without a rule of the policy, on a request on which the policy decides the same
  pub outcome_without : (left : List Element) → Gone top.depth left rest → (hit : Element → Bool)
      → (reply hit top (child_replies hit (suc top.depth) left)).decision ≡ (reply hit top (child_replies hit (suc top.depth) rest)).decision
      → outcome_of hit (xs ++ top ∷ left) ≡ outcome_of hit (xs ++ top ∷ rest)
  outcome_without left g hit same = same_outcome_lem hit (xs ++ top ∷ left) (xs ++ top ∷ rest) (behind xs (parent top left rest g policy_bare same))
    where
      behind : (xs : List Element) {ys zs : List Element} → Same hit ys zs → Same hit (xs ++ ys) (xs ++ zs)
      behind [] s = s
      behind (x ∷ xs) s = later x _ _ (behind xs s)
