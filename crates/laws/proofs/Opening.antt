-- A conflict is shown with the first request of a segment: what the children of an element that applies give goes by the elements
-- that apply.
use mathlib.Core.Path.{◌≡◌, sym, ap, ap₂, ◌∙◌, subst}
use Prim.Native.Nat.{ℕ, zero, suc, ◌+◌, ◌≤◌, ◌<◌}
use native.Mathlib.Omega.{arith}
use mathlib.Core.Bool.{Bool, true, false, cond}
use mathlib.Core.List.{map}
use mathlib.Core.Option.{some}
use lib.ListN.{length, get_or}
use Rattle.meaning.specs.Text.{Bytes}
use Rattle.meaning.specs.Model.{Policy, given}
use Rattle.meaning.specs.Reading.{read}
use Rattle.meaning.specs.Deciding.{hits}
use Rattle.meaning.specs.Segments.{applying_to, parent_of, children_of, decision_at, Conflict}
use Rattle.meaning.specs.Claims.Standard.{standard}
use Rattle.meaning.specs.Claims.Deciding.{parent_applies, Parented, reply_at, Standardly}
use Rattle.meaning.specs.Claims.Segments.{Opens, Conflicting}
use Rattle.laws.proofs.Types.{Decision, Word, not_applicable}
use Rattle.laws.proofs.Bools.{Test, passed, failed, test, and_right}
use Rattle.laws.proofs.Parents.{parented}
use Rattle.laws.proofs.Decided.{map_each, standardly}

module _ (p : Policy) (parents : Parented p) (decided : Standardly p) (n m : ℕ) (same : applying_to p n ≡ applying_to p m) where
  -- the elements whose parent, where they have one, applies to both requests
  abbrev Asked : ℕ → Type 0
  Asked i = parent_applies (applying_to p n) (parent_of p.elements i) ≡ true

  abbrev own : ℕ → ℕ → Bool
  own n i = get_or (map (hits p n) p.elements) i false

  own_alike : (i : ℕ) → i < length p.elements → Asked i → own n i ≡ own m i
  own_alike i l up =
      sym (parents.applies_below n i l ∙ and_right (own n i) _ up)
      ∙ ap (λ bs. get_or bs i false) same
      ∙ parents.applies_below m i l
      ∙ and_right (own m i) _ (subst (λ bs. parent_applies bs (parent_of p.elements i) ≡ true) same up)

  -- the children of such an element whose own target matches
  child_asked : (i j : ℕ) → i < length p.elements → Asked i → own n i ≡ true → parent_of p.elements j ≡ some i → Asked j
  child_asked i j l up hit child = rw child (parents.applies_below n i l ∙ and_right (own n i) _ up ∙ hit)

  -- what the standard gives
  abbrev gives : ℕ → ℕ → Decision
  gives n i = cond (own n i) (standard (get_or (map (λ e. e.word) p.elements) i Word.Permit) (map (reply_at p n) (children_of p.elements i))) not_applicable

  reply_alike : (left i : ℕ) → i < length p.elements → length p.elements ≤ i + left → Asked i → reply_at p n i ≡ reply_at p m i
  reply_alike zero i l most up = absurd (omega arith)
  reply_alike (suc left) i l most up = ap₂ (λ x d. record { matched = x; decision = d }) match (decided.each_element n i l ∙ go (test (own n i)) (λ j. reply_alike left j) ∙ sym (decided.each_element m i l))
    where
      match : own n i ≡ own m i
      match = own_alike i l up

      go : Test (own n i) → ((j : ℕ) → j < length p.elements → length p.elements ≤ j + left → Asked j → reply_at p n j ≡ reply_at p m j) → gives n i ≡ gives m i
      go (failed x) later = rw (← match, x)
      go (passed x) later =
          rw (← match, x)
          (ap (standard (get_or (map (λ e. e.word) p.elements) i Word.Permit))
          (map_each (reply_at p n) (reply_at p m) (children_of p.elements i) (λ j k.
          let (inside, child) = (parents.children i j).0 k in
          later j inside (omega (arith, ((parents.parents j i).0 child).earlier)) (child_asked i j l up x child))))

-- so the lowest request that shows a conflict is the first of its segment
pub conflict_opens : (f : Bytes) (p : Policy) → read f ≡ given p → (c : Conflict) → Conflicting p c → Opens p c.request
conflict_opens f p h c x m l same =
    let es = p.elements in
    let applied : get_or (applying_to p m) c.parent false ≡ true = ap (λ bs. get_or bs c.parent false) same ∙ x.shown.parent_applies in
    let alike : (j : ℕ) → j < length es → parent_of es j ≡ some c.parent → decision_at p m j ≡ decision_at p c.request j =
    λ j k child. ap (λ r. r.decision) (reply_alike p (parented f p h) (standardly f p h) m c.request same (length es) j k (omega arith) (rw child applied)) in
    x.lowest_shown m l (record {
      parent_applies = applied;
      opposed = rw (alike c.earlier (omega (arith, x.in_order, x.in_file)) x.earlier_child, alike c.later x.in_file x.later_child) x.shown.opposed;
    })
