-- Which children are asked, by their replies in order.
use mathlib.Core.Path.{◌≡◌, refl, sym, ap}
use mathlib.Core.Logic.{◌≢◌, ◌⊎◌, inl, inr, ◌↔◌}
use Prim.Native.Nat.{ℕ, zero, suc, ◌<◌}
use native.Mathlib.Omega.{arith}
use mathlib.Core.Bool.{Bool, true, false, not, ◌||◌}
use mathlib.Core.List.{List, [], ◌∷◌, map}
use lib.ListN.{length, get_or}
use Rattle.meaning.specs.Text.{keep}
use Rattle.meaning.specs.Deciding.{is, Reply, up_to, if_sole}
use Rattle.meaning.specs.Claims.Deciding.{UpTo, AskedInOrder}
use Rattle.laws.proofs.Types.{Decision, not_applicable, indeterminate}
use Rattle.laws.proofs.Bools.{Test, passed, failed, test, contradiction}
use Rattle.laws.proofs.Outcomes.{same_decision}

-- what a test settles, where it reflects S
module _ (settles : Decision → Bool) (S : Decision → Type 0) (reflects : (d : Decision) → settles d ≡ true ↔ S d) where
  only : (rs : List Reply) (k : ℕ) → get_or (up_to settles rs) k false ≡ true → UpTo S rs k
  only [] k h = contradiction h refl
  only (r ∷ rs) zero h = (omega arith, λ j l. absurd (omega arith))
  only (r ∷ rs) (suc k) h = go (test (settles r.decision)) (only rs k)
    where
      go : Test (settles r.decision) → (get_or (up_to settles rs) k false ≡ true → UpTo S rs k) → UpTo S (r ∷ rs) (suc k)
      go (passed e) later = let z : get_or {A = Bool} [] k false ≡ true = rw e at h in contradiction z refl
      go (failed e) later = let (a, b) = later (rw e at h) in (omega arith, at b)
        where
          at : ((j : ℕ) → j < k → S (get_or (map (λ r. r.decision) rs) j not_applicable) → ⊥) → (j : ℕ) → j < suc k → S (get_or (map (λ r. r.decision) (r ∷ rs)) j not_applicable) → ⊥
          at b zero l y = contradiction ((reflects r.decision).1 y) e
          at b (suc j) l y = b j (omega arith) y

  has : (rs : List Reply) (k : ℕ) → UpTo S rs k → get_or (up_to settles rs) k false ≡ true
  has [] k u = absurd (omega (arith, u.0))
  has (r ∷ rs) zero u = refl
  has (r ∷ rs) (suc k) u = go (test (settles r.decision)) (has rs k)
    where
      go : Test (settles r.decision) → (UpTo S rs k → get_or (up_to settles rs) k false ≡ true) → get_or (up_to settles (r ∷ rs)) (suc k) false ≡ true
      go (passed e) later = absurd (u.1 0 (omega arith) ((reflects r.decision).0 e))
      go (failed e) later = rw e (later (omega (arith, u.0), λ j l. u.1 (suc j) (omega arith)))

deny_settles : (d : Decision) → (is Decision.Deny d || is indeterminate d) ≡ true ↔ ((d ≡ Decision.Deny) ⊎ (d ≡ indeterminate))
deny_settles d = (λ h. one_of h (test (is Decision.Deny d)), settled)
  where
    one_of : (is Decision.Deny d || is indeterminate d) ≡ true → Test (is Decision.Deny d) → (d ≡ Decision.Deny) ⊎ (d ≡ indeterminate)
    one_of h (passed e) = inl (sym (same_decision Decision.Deny d e))
    one_of h (failed e) = inr (sym (same_decision indeterminate d (rw e at h)))

    settled : (d ≡ Decision.Deny) ⊎ (d ≡ indeterminate) → (is Decision.Deny d || is indeterminate d) ≡ true
    settled (inl e) = rw e
    settled (inr e) = rw e

permit_settles : (d : Decision) → is Decision.Permit d ≡ true ↔ (d ≡ Decision.Permit)
permit_settles d = (λ h. sym (same_decision Decision.Permit d h), λ e. ap (is Decision.Permit) e)

any_settles : (d : Decision) → not (is not_applicable d) ≡ true ↔ (d ≢ not_applicable)
any_settles d = (λ h e. contradiction h (ap (λ x. not (is not_applicable x)) e), λ n. go n (test (is not_applicable d)))
  where
    go : d ≢ not_applicable → Test (is not_applicable d) → not (is not_applicable d) ≡ true
    go n (passed e) = absurd (n (sym (same_decision not_applicable d e)))
    go n (failed e) = rw e

sole : (bs : List Bool) (k : ℕ) (ms : List Reply) → get_or (if_sole ms bs) k false ≡ true ↔ ((get_or bs k false ≡ true) × (length ms ≡ 1))
sole bs k [] = (λ h. contradiction h refl, λ x. absurd (omega (arith, x.1)))
sole bs k (m ∷ []) = (λ h. (h, refl), λ x. x.0)
sole bs k (m ∷ n ∷ ms) = (λ h. contradiction h refl, λ x. absurd (omega (arith, x.1)))

pub asked_in_order : AskedInOrder
asked_in_order = record {
  deny_first = λ rs k. (only _ _ deny_settles rs k, has _ _ deny_settles rs k);
  permit_first = λ rs k. (only _ _ permit_settles rs k, has _ _ permit_settles rs k);
  any_first = λ rs k. (only _ _ any_settles rs k, has _ _ any_settles rs k);
  sole = λ rs k. sole (map (λ r. r.matched) rs) k (keep (λ r. r.matched) rs);
}
