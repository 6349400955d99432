-- The conditions of the table's rows on each kind of line, beside the tests of names, words and what an obligation follows.
use mathlib.Core.Path.{◌≡◌, refl, sym, ap, ◌∙◌, subst}
use mathlib.Core.Logic.{inl, inr}
use Prim.Native.Nat.{ℕ, zero, suc, ◌-◌, ◌≤◌, ◌<◌}
use native.Mathlib.Omega.{arith}
use mathlib.Core.Bool.{Bool, true, false, not}
use mathlib.Core.List.{List, [], ◌∷◌}
use lib.ListN.{length, take, replicate}
use lib.Seq.{take-append_seam}
use lib.Dec.{ltb}
use borrow.Author.Tests.{ltb-true, ltb-false, not-false}
use Rattle.meaning.specs.Text.{Bytes, bytes, is_none, is_name}
use Rattle.meaning.specs.Model.{Attribute, padded, places_of, obligations_of, kind_text, attribute_fields}
use Rattle.meaning.specs.Reading.{word_of, or_permit, bad_stored, may_have_obligations, well_followed}
use Rattle.meaning.specs.Claims.Refusals.{On, BadWord, BadlyFollowing}
use Rattle.laws.proofs.Types.{Kind, Element}
use Rattle.laws.proofs.Bools.{Test, passed, failed, test, contradiction, and_true}
use Rattle.laws.proofs.Words.{word_allowed, allowed_word, word_again, word_had}
use Rattle.laws.proofs.Bounds.{stored}
use Rattle.laws.proofs.TreeLines.{stored_name}
use Rattle.laws.proofs.ObligationLines.{may_not}
use Rattle.laws.proofs.Reflects.{Reflects, reflects}
use Rattle.laws.proofs.BadFields.{kind_same, not_letter, letter_same, not_obligation, kind_not_obligation}

-- A row on an attribute line, on a tree line and on an obligation's line
module _ (A : Attribute → Type 0) (T : Kind → Bytes → Bytes → Bytes → List Bytes → Type 0) (O : Bytes → Bytes → Type 0) (b : Bool) where
  pub on_attribute : (a : Attribute) → Reflects b (A a) → Reflects b (On A T O (attribute_fields a))
  on_attribute a r = record { holds = λ e. inl (a.several, refl, r.holds e); tests = go }
    where
      go : On A T O (attribute_fields a) → b ≡ true
      go (inl (c, e, x)) = r.tests (subst (λ several. A (record { several = several; name = a.name; values = a.values })) (sym (letter_same a.several c e)) x)
      go (inr (inl (k, e, x))) = absurd (not_letter a.several k e)
      go (inr (inr (e, x))) = absurd (not_obligation a.several e)

  pub on_tree : (k : Kind) (d n w : Bytes) (ts : List Bytes) → Reflects b (T k d n w ts) → Reflects b (On A T O (kind_text k ∷ d ∷ n ∷ w ∷ ts))
  on_tree k d n w ts r = record { holds = λ e. inr (inl (k, refl, r.holds e)); tests = go }
    where
      go : On A T O (kind_text k ∷ d ∷ n ∷ w ∷ ts) → b ≡ true
      go (inl (c, e, x)) = absurd (not_letter c k (sym e))
      go (inr (inl (j, e, x))) = r.tests (subst (λ i. T i d n w ts) (sym (kind_same k j e)) x)
      go (inr (inr (e, x))) = absurd (kind_not_obligation k e)

  pub on_obligation : (n w : Bytes) → Reflects b (O n w) → Reflects b (On A T O (bytes "O" ∷ n ∷ w ∷ []))
  on_obligation n w r = record { holds = λ e. inr (inr (refl, r.holds e)); tests = go }
    where
      go : On A T O (bytes "O" ∷ n ∷ w ∷ []) → b ≡ true
      go (inl (c, e, x)) = absurd (not_obligation c (sym e))
      go (inr (inl (k, e, x))) = absurd (kind_not_obligation k (sym e))
      go (inr (inr (e, x))) = r.tests x

-- A name and a word, of an element or an obligation
pub name_row : (n : Bytes) → Reflects (bad_stored (length n) (padded 16 n)) (is_name n ≡ false)
name_row n = reflects (bad_stored (length n) (padded 16 n)) (is_name n ≡ false) (λ e. bad e (test (is_name n))) good
  where
    bad : bad_stored (length n) (padded 16 n) ≡ true → Test (is_name n) → is_name n ≡ false
    bad e (failed x) = x
    bad e (passed x) = contradiction e (stored_name n x)

    good : bad_stored (length n) (padded 16 n) ≡ false → is_name n ≡ false → ⊥
    good e x = contradiction (stored (length n) (padded 16 n) e).is_name (ap is_name (take-append_seam n (replicate (16 - length n) 0)) ∙ x)

pub word_row : (k : Kind) (w : Bytes) → Reflects (is_none (word_of k w)) (BadWord k w)
word_row k w = reflects (is_none (word_of k w)) (BadWord k w) (λ e v a i. contradiction e (ap (λ t. is_none (word_of k t)) i ∙ allowed_word k v a))
    (λ e h. h (or_permit (word_of k w)) (word_allowed k (or_permit (word_of k w)) (word_had k w e)) (sym (word_again k w e)))

-- What an obligation follows
pub follow_row : (es : List Element) → Reflects (not (well_followed es)) (BadlyFollowing es)
follow_row [] = record { holds = λ e. tt; tests = λ r. refl }
follow_row (e ∷ es) = reflects (not (well_followed (e ∷ es))) (BadlyFollowing (e ∷ es)) (λ h. bad h (test (may_have_obligations e.kind)) (test (ltb (length (obligations_of e)) 2))) good
  where
    many : (n : ℕ) → 2 ≤ length (take n (places_of e)) → 2 ≤ n
    many zero l = absurd (omega arith)
    many (suc zero) l = absurd (omega arith)
    many (suc (suc n)) l = omega arith

    few : (n : ℕ) → 2 ≤ n → length (take n (places_of e)) < 2 → ⊥
    few zero l u = omega arith
    few (suc zero) l u = omega arith
    few (suc (suc zero)) l u = omega arith
    few (suc (suc (suc n))) l u = omega arith

    bad : not (well_followed (e ∷ es)) ≡ true → Test (may_have_obligations e.kind) → Test (ltb (length (obligations_of e)) 2) → BadlyFollowing (e ∷ es)
    bad h (failed x) t = inl (may_not e.kind x)
    bad h (passed x) (failed y) = inr (many e.obligations (ltb-false (length (obligations_of e)) 2 y))
    bad h (passed x) (passed y) = contradiction h (rw (x, y))

    good : not (well_followed (e ∷ es)) ≡ false → BadlyFollowing (e ∷ es) → ⊥
    good h b = go (and_true (may_have_obligations e.kind) (ltb (length (obligations_of e)) 2) (not-false (well_followed (e ∷ es)) h)) b
      where
        go : (may_have_obligations e.kind ≡ true) × (ltb (length (obligations_of e)) 2 ≡ true) → BadlyFollowing (e ∷ es) → ⊥
        go (x, y) (inl r) = contradiction x (ap may_have_obligations r)
        go (x, y) (inr l) = few e.obligations l (ltb-true (length (obligations_of e)) 2 y)
