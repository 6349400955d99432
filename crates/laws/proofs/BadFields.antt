-- Row 2 of the table, bad fields, and with it all rows of a line beside its tests, for the reader and for the writer.
use mathlib.Core.Path.{◌≡◌, refl, sym, ap, ◌∙◌}
use mathlib.Core.Logic.{◌≢◌, ◌⊎◌, inl, inr}
use Prim.Native.Nat.{ℕ, zero, suc, ◌<◌}
use native.Mathlib.Omega.{arith}
use mathlib.Core.Bool.{Bool, true, false, not, ◌||◌}
use mathlib.Core.List.{List, [], ◌∷◌}
use mathlib.Core.Option.{Option, none, some}
use lib.ListN.{length, get_or}
use lib.Dec.{eqb, lit≤, lit<}
use borrow.Author.Tests.{eqb-true, eqb-false, not-true, not-false}
use Rattle.meaning.specs.Text.{Bytes, all, same, is_field, bytes}
use Rattle.meaning.specs.Model.{Attribute, letter_text, kind_text, attribute_fields}
use Rattle.meaning.specs.Reading.{Line, attribute_line, tree_line, other_line, kind_of, attribute_letter, line_of, Sofar, Tests, lowest, wrong_fields, obligation_letter, obligation_line}
use Rattle.meaning.specs.Claims.Refusals.{BadFields, Lowest}
use Rattle.laws.proofs.Types.{Kind, set, policy, rule}
use Rattle.laws.proofs.Bools.{Test, passed, failed, test, contradiction, or_false, never}
use Rattle.laws.proofs.Search.{none-some}
use Rattle.laws.proofs.Reading.{Numbered}
use Rattle.laws.proofs.Lines.{spelled_some, letter_is, letter_attribute, letter_several, attribute_fields_lem, tree_fields, kind_not_attribute, obligation_fields_lem}
use Rattle.laws.proofs.Reflects.{Reflects, reflects, Matches, lowest_row, row_lowest, NumberedRows, row_number}
use Rattle.laws.proofs.FirstBad.{all_tests, Fails, unended, tested}
use Rattle.laws.proofs.Text.{same_true}

-- Letters
kind_again : (k : Kind) → kind_of (kind_text k) ≡ some k
kind_again set = refl
kind_again policy = refl
kind_again rule = refl

pub kind_same : (j k : Kind) → kind_text j ≡ kind_text k → j ≡ k
kind_same j k e = let s : some j ≡ some k = sym (kind_again j) ∙ ap kind_of e ∙ kind_again k in cc

pub not_letter : (several : Bool) (k : Kind) → letter_text several ≢ kind_text k
not_letter several k e = contradiction (ap attribute_letter (sym e) ∙ letter_attribute several) (kind_not_attribute k)

pub not_obligation : (several : Bool) → letter_text several ≢ bytes "O"
not_obligation several e = contradiction (letter_attribute several) (ap attribute_letter e)

pub kind_not_obligation : (k : Kind) → kind_text k ≢ bytes "O"
kind_not_obligation k e = none-some (sym (ap kind_of e) ∙ kind_again k)

pub letter_same : (b c : Bool) → letter_text b ≡ letter_text c → b ≡ c
letter_same b c e = sym (letter_several b) ∙ ap (λ t. same t (letter_text true)) e ∙ letter_several c

no_attribute : (f : Bytes) → attribute_letter f ≡ false → (several : Bool) → f ≢ letter_text several
no_attribute f e several i = contradiction (ap attribute_letter i ∙ letter_attribute several) e

-- Row 2
no_letter : (f : Bytes) → kind_of f ≡ none → (k : Kind) → f ≢ kind_text k
no_letter f e k i = none-some (sym e ∙ ap kind_of i ∙ kind_again k)

no_obligation : (f : Bytes) → obligation_letter f ≡ false → f ≢ bytes "O"
no_obligation f e i = contradiction (ap obligation_letter i) e

-- fewer than three fields
few_fields : (attrs : List Attribute) (f : Bytes) (fs : List Bytes) → length (f ∷ fs) < 3 → BadFields attrs (f ∷ fs)
few_fields attrs f fs l = go (test (attribute_letter f)) (test (obligation_letter f)) (kind_of f) refl
  where
    go : Test (attribute_letter f) → Test (obligation_letter f) → (o : Option Kind) → kind_of f ≡ o → BadFields attrs (f ∷ fs)
    go (passed e) d o i = inr (inr (inl (same f (letter_text true), letter_is f e, l)))
    go (failed e) (passed d) o i = inr (inr (inr (inr (same_true f (bytes "O") d, λ c. omega (arith, l, c)))))
    go (failed e) (failed d) none i = inr (inl (no_attribute f e, no_letter f i, no_obligation f d))
    go (failed e) (failed d) (some k) i = inr (inr (inr (inl (k, sym (spelled_some kind_text f (set ∷ policy ∷ rule ∷ []) k i), omega (arith, l)))))

other_bad : (attrs : List Attribute) (fs : List Bytes) → line_of fs ≡ other_line → BadFields attrs fs
other_bad attrs [] h = inr (inl (no_attribute [] refl, no_letter [] refl, no_obligation [] refl))
other_bad attrs (f ∷ []) h = few_fields attrs f [] (lit< tt)
other_bad attrs (f ∷ g ∷ []) h = few_fields attrs f (g ∷ []) (lit< tt)
other_bad attrs (f ∷ g ∷ x ∷ xs) h = go (test (attribute_letter f)) (test (obligation_letter f)) (kind_of f) refl xs refl
  where
    go : Test (attribute_letter f) → Test (obligation_letter f) → (o : Option Kind) → kind_of f ≡ o → (ys : List Bytes) → xs ≡ ys → BadFields attrs (f ∷ g ∷ x ∷ xs)
    go (passed e) d o i ys j = let z : attribute_line (record { several = same f (letter_text true); name = g; values = x ∷ xs }) ≡ other_line = rw e at h in never cc
    go (failed e) (passed d) o i [] j = let z : obligation_line g x ≡ other_line = rw (e, d, j) at h in never cc
    go (failed e) (passed d) o i (w ∷ ts) j = inr (inr (inr (inr (same_true f (bytes "O") d, λ c. omega (arith, c, ap length j)))))
    go (failed e) (failed d) none i ys j = inr (inl (no_attribute f e, no_letter f i, no_obligation f d))
    go (failed e) (failed d) (some k) i [] j = inr (inr (inr (inl (k, sym (spelled_some kind_text f (set ∷ policy ∷ rule ∷ []) k i), λ c. omega (arith, c, ap length j)))))
    go (failed e) (failed d) (some k) i (w ∷ ts) j = let z : tree_line k g x w ts ≡ other_line = rw (e, d, i, j) at h in never cc

or_left : (b : Bool) → (b || false) ≡ true → b ≡ true
or_left true e = refl
or_left false e = e

module _ (s : Sofar) where
  wrong_bad : (fs : List Bytes) (l : Line) → line_of fs ≡ l → wrong_fields s fs l ≡ true → BadFields s.attributes fs
  wrong_bad fs (attribute_line a) i h = inl (not-true (all is_field fs) (or_left (not (all is_field fs)) h))
  wrong_bad fs (tree_line k d n w ts) i h = go (test (all is_field fs))
    where
      go : Test (all is_field fs) → BadFields s.attributes fs
      go (failed e) = inl e
      go (passed e) =
          let uncounted : not (eqb (length ts) (length s.attributes)) ≡ true = rw e at h in
          let other = eqb-false (length ts) (length s.attributes) (not-true (eqb (length ts) (length s.attributes)) uncounted) in
          let are = tree_fields fs k d n w ts i in
          inr (inr (inr (inl (k, ap (λ x. get_or x 0 []) are, λ c. other (omega (arith, c, ap length are))))))
  wrong_bad fs (obligation_line n w) i h = inl (not-true (all is_field fs) (or_left (not (all is_field fs)) h))
  wrong_bad fs other_line i h = other_bad s.attributes fs i

  right_good : (fs : List Bytes) (l : Line) → line_of fs ≡ l → wrong_fields s fs l ≡ false → BadFields s.attributes fs → ⊥
  right_good fs (attribute_line a) i h b = go b
    where
      are : fs ≡ attribute_fields a
      are = (attribute_fields_lem fs a i).are

      go : BadFields s.attributes fs → ⊥
      go (inl e) = contradiction (not-false (all is_field fs) (or_false (not (all is_field fs)) false h).0) e
      go (inr (inl (n, k, o))) = n a.several (ap (λ x. get_or x 0 []) are)
      go (inr (inr (inl (b, e, c)))) = omega (arith, c, ap length are, (attribute_fields_lem fs a i).some_value)
      go (inr (inr (inr (inl (k, e, c))))) = not_letter a.several k (sym (ap (λ x. get_or x 0 []) are) ∙ e)
      go (inr (inr (inr (inr (e, c))))) = not_obligation a.several (sym (ap (λ x. get_or x 0 []) are) ∙ e)
  right_good fs (tree_line k d n w ts) i h b = go b
    where
      are : fs ≡ kind_text k ∷ d ∷ n ∷ w ∷ ts
      are = tree_fields fs k d n w ts i

      counted : length ts ≡ length s.attributes
      counted = eqb-true (length ts) (length s.attributes) (not-false (eqb (length ts) (length s.attributes)) (or_false (not (all is_field fs)) (not (eqb (length ts) (length s.attributes))) h).1)

      go : BadFields s.attributes fs → ⊥
      go (inl e) = contradiction (not-false (all is_field fs) (or_false (not (all is_field fs)) (not (eqb (length ts) (length s.attributes))) h).0) e
      go (inr (inl (m, j, o))) = j k (ap (λ x. get_or x 0 []) are)
      go (inr (inr (inl (b, e, c)))) = omega (arith, c, ap length are)
      go (inr (inr (inr (inl (j, e, c))))) = c (omega (arith, ap length are, counted))
      go (inr (inr (inr (inr (e, c))))) = kind_not_obligation k (sym (ap (λ x. get_or x 0 []) are) ∙ e)
  right_good fs (obligation_line n w) i h b = go b
    where
      are : fs ≡ bytes "O" ∷ n ∷ w ∷ []
      are = obligation_fields_lem fs n w i

      go : BadFields s.attributes fs → ⊥
      go (inl e) = contradiction (not-false (all is_field fs) (or_false (not (all is_field fs)) false h).0) e
      go (inr (inl (m, j, o))) = o (ap (λ x. get_or x 0 []) are)
      go (inr (inr (inl (b, e, c)))) = not_obligation b (sym e ∙ ap (λ x. get_or x 0 []) are)
      go (inr (inr (inr (inl (k, e, c))))) = kind_not_obligation k (sym e ∙ ap (λ x. get_or x 0 []) are)
      go (inr (inr (inr (inr (e, c))))) = c (ap length are)
  right_good fs other_line i h b = contradiction refl (or_false (not (all is_field fs)) true h).1

  row_2 : (U : Type 0) → (U → ⊥) → (fs : List Bytes) → Reflects (wrong_fields s fs (line_of fs)) (U ⊎ BadFields s.attributes fs)
  row_2 U unheld fs = reflects (wrong_fields s fs (line_of fs)) (U ⊎ BadFields s.attributes fs) (λ e. inr (wrong_bad fs (line_of fs) refl e)) go
    where
      go : wrong_fields s fs (line_of fs) ≡ false → U ⊎ BadFields s.attributes fs → ⊥
      go e (inl u) = unheld u
      go e (inr b) = right_good fs (line_of fs) refl e b

-- Tests of a line and later rows, one for one where its fields are not bad
abbrev pub Beside : Sofar → List Bytes → Tests → List (ℕ × Type 0) → Type 0
Beside s fs later-tests later = wrong_fields s fs (line_of fs) ≡ false → (ts : Tests) × (lowest later-tests ≡ lowest ts) × Matches ts later

-- A line fails with the lowest number whose row holds
module _ (tests : Sofar → Line → Tests) (numbered : (s : Sofar) (l : Line) → Numbered (tests s l)) (s : Sofar) (fs : List Bytes) (later : List (ℕ × Type 0)) (beside : Beside s fs (tests s (line_of fs)) later) where
  abbrev rows : Type 0 → List (ℕ × Type 0)
  rows U = (2, U ⊎ BadFields s.attributes fs) ∷ later

  line_row : (U : Type 0) → (U → ⊥) → (n : ℕ) → lowest (all_tests tests numbered s fs) ≡ suc n → Lowest (suc n) (rows U)
  line_row U unheld n h = go (test (wrong_fields s fs (line_of fs)))
    where
      go : Test (wrong_fields s fs (line_of fs)) → Lowest (suc n) (rows U)
      go (passed e) = let two : 2 ≡ suc n = rw e at h in inl ((row_2 s U unheld fs).holds e, sym two)
      go (failed e) =
          let (ts, i, m) = beside e in
          let rest : lowest (tests s (line_of fs)) ≡ suc n = rw e at h in
          inr (λ r. contradiction ((row_2 s U unheld fs).tests r) e, lowest_row ts later n m (sym i ∙ rest))

  row_line : (U : Type 0) → (U → ⊥) → (n : ℕ) → Lowest n (rows U) → lowest (all_tests tests numbered s fs) ≡ n
  row_line U unheld n (inl (r, e)) = rw ((row_2 s U unheld fs).tests r) (sym e)
  row_line U unheld n (inr (none_here, l)) = go (test (wrong_fields s fs (line_of fs)))
    where
      go : Test (wrong_fields s fs (line_of fs)) → lowest (all_tests tests numbered s fs) ≡ n
      go (passed e) = absurd (none_here ((row_2 s U unheld fs).holds e))
      go (failed e) = let (ts, i, m) = beside e in rw e (i ∙ row_lowest ts later n m l)

  pub fails_row : (n : ℕ) (after : List Bytes) → Fails tests numbered s fs n after → Lowest n (rows (length after ≡ 0))
  fails_row n [] (unended e) = inl (inl refl, e)
  fails_row zero (l ∷ ls) (tested e i) = absurd (omega arith)
  fails_row (suc n) (l ∷ ls) (tested e i) = line_row (length (l ∷ ls) ≡ 0) (λ z. omega arith) n e

  pub row_fails : NumberedRows later → (n : ℕ) (after : List Bytes) → Lowest n (rows (length after ≡ 0)) → Fails tests numbered s fs n after
  row_fails big n [] (inl (r, e)) = unended e
  row_fails big n [] (inr (unheld, l)) = absurd (unheld (inl refl))
  row_fails big n (y ∷ ys) l = tested (row_line (length (y ∷ ys) ≡ 0) (λ z. omega arith) n l) (row_number (rows (length (y ∷ ys) ≡ 0)) n (lit≤ tt, big) l)
