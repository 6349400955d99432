-- Trimming over a table and flags is trimming over the policy that was read into the table.
use mathlib.Core.Path.{◌≡◌, refl, sym, ap, ap₂, ◌∙◌}
use mathlib.Core.Logic.{◌≢◌}
use Prim.Native.Nat.{ℕ, zero, suc, ◌<◌}
use native.Mathlib.Omega.{arith}
use mathlib.Core.Bool.{Bool, true, not, ◌&&◌, cond}
use mathlib.Core.List.{List, reverse}
use mathlib.Core.Option.{Option, none, some}
use lib.ListN.{length, get_or, set}
use lib.Seq.{get_or-set_other}
use Rattle.meaning.specs.declared.Element.{Element}
use Rattle.meaning.specs.Text.{Bytes, is_none, first_from, last_below}
use Rattle.meaning.specs.Model.{Policy, sizes, severals, given, space as space_of}
use Rattle.meaning.specs.Reading.{read}
use Rattle.meaning.specs.Deciding.{request_of, same_outcome, outcome_of, outcome, hits}
use Rattle.laws.proofs.Bools.{Test, passed, failed, test, contradiction}
use Rattle.laws.proofs.ElementKinds.{kinds}
use Rattle.table.specs.declared.Row.{Row}
use Rattle.table.specs.Tree.{rule_left}
use Rattle.trimming.specs.Decided as table-level
use Rattle.layout.specs.declared.ElementPlaces.{ElementPlaces}
use Rattle.layout.specs.Places.{elements_to}
use Rattle.obligations.specs.Given.{outcome_left}
use Rattle.obligations.proofs.Left.{outcome_left_lem}
use Rattle.trimmed_text.specs.Flags.{is_left, left_policy, changes_at, first_change_at, rule_in, kept_at, needless_at, next_at, trimming_at}
use Rattle.trimmed_text.proofs.Steps.{kept_rule}
use Rattle.trimmed_text.proofs.Next.{next_kept}
use Rattle.trimmed_text.proofs.Table.{elements_left}
use Rattle.trimmed_text.proofs.ByPlace.{some_element, top_depth, effect_is}

-- tests that agree below n have the same last place there
pub last_alike : (F G : ℕ → Bool) (n : ℕ) → ((i : ℕ) → i < n → F i ≡ G i) → last_below F n ≡ last_below G n
last_alike F G zero alike = refl
last_alike F G (suc n) alike = ap₂ (λ b o. cond b (some n) o) (alike n (omega arith)) (last_alike F G n (λ i l. alike i (omega arith)))

module _ (f : Bytes) (p : Policy) (h : read f ≡ given p) (table : List Row) (places : List ElementPlaces) (n : ℕ) (is : p.elements ≡ reverse (elements_to f table places n)) (size : length p.elements ≡ n)
    (hit : ℕ → Element → Bool) (space : ℕ) (hits_are : (m : ℕ) → hit m ≡ hits p m) (space_is : space ≡ space_of p.attributes) where
  -- what a request gets from the elements that are left, of which the first is one
  pub outcome_is : (struck : List ℕ) → get_or struck 0 0 ≡ 0 → (m : ℕ) → outcome_left (hit m) f table places struck n ≡ outcome (left_policy p struck) m
  outcome_is struck live m =
      let q = request_of (sizes p.attributes) m in
      ap (λ test. outcome_left test f table places struck n) (hits_are m)
      ∙ sym (outcome_left_lem f table places struck n (some_element f p h table places n is) live (top_depth f p h table places n is) (severals p.attributes) q)
      ∙ ap (outcome_of (hits p m)) (elements_left f table places n p is struck)

  -- a rule that is left, a needless one, and the next to strike
  pub rule_is : (struck : List ℕ) (i : ℕ) → i < n → rule_left table struck i ≡ kept_at p struck i
  rule_is struck i l = ap (λ b. is_left struck i && b) (effect_is f p h table places n is i l)

  -- it is not the first element
  behind_first : (struck : List ℕ) (i : ℕ) → kept_at p struck i ≡ true → i ≢ 0
  behind_first struck i kept first = contradiction (ap (rule_in p.elements) (sym first) ∙ kept_rule p struck i kept) (kinds f p h).root

  -- so the first element is left without it
  first_stays : (struck : List ℕ) (i : ℕ) → kept_at p struck i ≡ true → get_or struck 0 0 ≡ 0 → get_or (set struck i 1) 0 0 ≡ 0
  first_stays struck i kept live = get_or-set_other struck i 0 1 0 (λ first. behind_first struck i kept (sym first)) ∙ live

  -- the first request that gets something else without it
  change_is : (struck : List ℕ) → get_or struck 0 0 ≡ 0 → (i m : ℕ) → kept_at p struck i ≡ true → table-level.changes_at f places table n hit struck i m ≡ changes_at p struck i m
  unfolding table-level.changes_at changes_at
  change_is struck live i m kept = ap₂ (λ a b. not (same_outcome a b)) (outcome_is struck live m) (outcome_is (set struck i 1) (first_stays struck i kept live) m)

  pub first_change_is : (struck : List ℕ) → get_or struck 0 0 ≡ 0 → (i : ℕ) → kept_at p struck i ≡ true → table-level.first_change_at f places table n hit space struck i ≡ first_change_at p struck i
  unfolding table-level.first_change_at first_change_at
  first_change_is struck live i kept = λ j. first_from (λ m. change_is struck live i m kept j) 0 (space_is j)

  pub needless_is : (struck : List ℕ) → get_or struck 0 0 ≡ 0 → (i : ℕ) → i < n → table-level.needless_at f places table n hit space struck i ≡ needless_at p struck i
  unfolding table-level.needless_at needless_at
  needless_is struck live i l = ap (λ b. b && is_none (table-level.first_change_at f places table n hit space struck i)) (rule_is struck i l) ∙ go (test (kept_at p struck i))
    where
      go : Test (kept_at p struck i) → (kept_at p struck i && is_none (table-level.first_change_at f places table n hit space struck i)) ≡ (kept_at p struck i && is_none (first_change_at p struck i))
      go (passed e) = ap (λ o. kept_at p struck i && is_none o) (first_change_is struck live i e)
      go (failed e) = rw e

  pub next_is : (struck : List ℕ) → get_or struck 0 0 ≡ 0 → table-level.next_at f places table n hit space struck ≡ next_at p struck
  unfolding table-level.next_at next_at
  next_is struck live = last_alike (table-level.needless_at f places table n hit space struck) (needless_at p struck) n (needless_is struck live) ∙ ap (last_below (needless_at p struck)) (sym size)

  -- the same flags at the end, and the same places struck
  pub trimming_is : (k : ℕ) (struck : List ℕ) → get_or struck 0 0 ≡ 0 → table-level.trimming_at f places table n hit space k struck ≡ trimming_at k p struck
  unfolding table-level.trimming_at trimming_at
  trimming_is zero struck live = refl
  trimming_is (suc k) struck live = rw (next_is struck live) (go (next_at p struck) refl (λ i. trimming_is k (set struck i 1)))
    where
      go : (o : Option ℕ) → next_at p struck ≡ o → ((i : ℕ) → get_or (set struck i 1) 0 0 ≡ 0 → table-level.trimming_at f places table n hit space k (set struck i 1) ≡ trimming_at k p (set struck i 1))
          → table-level.onward o struck (λ i. table-level.trimming_at f places table n hit space k (set struck i 1)) ≡ table-level.onward o struck (λ i. trimming_at k p (set struck i 1))
      go none e later = refl
      go (some i) e later = ap (table-level.struck_first i) (later i (first_stays struck i (next_kept p struck i e) live))
