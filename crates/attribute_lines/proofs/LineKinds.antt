-- A line by its first field: an attribute line, a tree line, an obligation's, or one that test 2 refuses.
use Rattle.std.specs.Prelude.{Err}
use mathlib.Core.Path.{◌≡◌, refl, sym, ap, ◌∙◌, subst, subst⁻¹}
use Prim.Native.Nat.{ℕ, ◌≤◌, ◌<◌}
use native.Mathlib.Omega.{arith}
use mathlib.Core.Bool.{true, false, not, cond}
use mathlib.Core.List.{List, [], ◌∷◌}
use mathlib.Core.Option.{none}
use lib.Dec.{ltb}
use lib.ListN.{length, get_or}
use borrow.Author.Tests.{ltb-true, ltb-false}
use Rattle.meaning.specs.Text.{Bytes, all, cut, tab, is_field}
use Rattle.meaning.specs.Reading.{Line, other_line, kind_of, attribute_letter, obligation_letter, line_of, Sofar, Tests, wrong_fields, line_tests}
use Rattle.laws.proofs.Bools.{Test, passed, failed, test, or_true}
use Rattle.syntax.specs.declared.LineKind.{LineKind}
use Rattle.syntax.specs.Fields.{line_kind}
use Rattle.syntax.proofs.Fields.{ByLetter, by_letter}
use Rattle.refusals.specs.declared.Refusal.{Refusal}
use Rattle.refusals.specs.declared.Refusal.TheVariants.{BadLine}
use Rattle.refusals.specs.Numbers.{number_of}
use Rattle.table.specs.declared.Row.{Row}
use Rattle.layout.specs.declared.ElementPlaces.{ElementPlaces}
use Rattle.layout.specs.Places.{part}
use Rattle.attribute_lines.specs.declared.State.{State}
use Rattle.attribute_lines.specs.declared.LineShape.{LineShape}
use Rattle.attribute_lines.specs.Sofar.{refusal_by, refusal_of, AttributeLine, TreeLine, ObligationLine, shape_of}
use Rattle.attribute_lines.specs.Steps.{read_sofar, StepIs}

-- A refused line leaves all as it was
pub stopped : {f : List ℕ} {t : List Row} {p : List ElementPlaces} {st : State} {end : ℕ} (why : Refusal) → number_of why ≡ refusal_of (read_sofar f t p st) (cut tab (part f st.at end)) → StepIs f t p t p st end st (Err why)
stopped why is = record { refusal = is; next = tt; stays = record { table_is = refl; places_are = refl; state_is = refl } }

-- Test 2 refuses first
pub wrong_refused : (tests : Sofar → Line → Tests) (s : Sofar) (fs : List Bytes) → wrong_fields s fs (line_of fs) ≡ true → refusal_by tests s fs ≡ 2
unfolding refusal_by
wrong_refused tests s fs h = rw h

pub refused_2 : (f : List ℕ) (t : List Row) (p : List ElementPlaces) (st : State) (end : ℕ) → wrong_fields (read_sofar f t p st) (cut tab (part f st.at end)) (line_of (cut tab (part f st.at end))) ≡ true → StepIs f t p t p st end st (Err BadLine)
refused_2 f t p st end h = stopped BadLine (sym (wrong_refused line_tests (read_sofar f t p st) (cut tab (part f st.at end)) h))

-- A line by its kind; any other is wrong by test 2, whatever was read so far
abbrev pub ShapeIs : List Bytes → LineKind → ℕ → Type 0
ShapeIs fs (LineKind.Attribute several) n = AttributeLine several fs n
ShapeIs fs (LineKind.Tree k) n = TreeLine fs k n
ShapeIs fs LineKind.Obligation n = ObligationLine fs n
ShapeIs fs LineKind.Other n = (s : Sofar) → wrong_fields s fs (line_of fs) ≡ true

-- Lines of fewer than three fields, and lines of another letter
few_other : (fs : List Bytes) → length fs < 3 → line_of fs ≡ other_line
few_other [] l = refl
few_other (f ∷ []) l = refl
few_other (f ∷ g ∷ []) l = refl
few_other (f ∷ g ∷ h ∷ more) l = absurd (omega arith)

letter_other : (fs : List Bytes) → attribute_letter (get_or fs 0 []) ≡ false → obligation_letter (get_or fs 0 []) ≡ false → kind_of (get_or fs 0 []) ≡ none → line_of fs ≡ other_line
letter_other [] a o t = refl
letter_other (f ∷ []) a o t = refl
letter_other (f ∷ g ∷ []) a o t = refl
letter_other (f ∷ g ∷ h ∷ more) a o t = rw (a, o, t)

-- how many fields there are, 0 where one is bad
module _ (fs : List Bytes) (n : ℕ) (counted : n ≡ cond (all is_field fs) (length fs) 0) where
  -- too few fields, or a bad one
  few_fields : n < 3 → ShapeIs fs LineKind.Other n
  few_fields l = λ s. go s (test (all is_field fs))
    where
      go : (s : Sofar) → Test (all is_field fs) → wrong_fields s fs (line_of fs) ≡ true
      go s (passed e) = let m : n ≡ length fs = rw e at counted in rw (e, few_other fs (omega arith))
      go s (failed e) = rw e

  good_fields : 3 ≤ n → (all is_field fs ≡ true) × (n ≡ length fs)
  good_fields l = go (test (all is_field fs))
    where
      go : Test (all is_field fs) → (all is_field fs ≡ true) × (n ≡ length fs)
      go (passed e) = (e, rw e at counted)
      go (failed e) = let z : n ≡ 0 = rw e at counted in absurd (omega arith)

  -- by the letter
  by_kind : 3 ≤ n → (k : LineKind) → k ≡ line_kind (get_or fs 0 []) → ShapeIs fs k n
  by_kind l k letter = go k (good_fields l) (subst (ByLetter (get_or fs 0 [])) (sym letter) (by_letter (get_or fs 0 [])))
    where
      go : (k : LineKind) → (all is_field fs ≡ true) × (n ≡ length fs) → ByLetter (get_or fs 0 []) k → ShapeIs fs k n
      go (LineKind.Attribute several) (g, m) a = record { fields = g; count = m; three = l; letter = a }
      go (LineKind.Tree kind) (g, m) (a, o, t) = record { fields = g; count = m; three = l; no_attribute = a; no_obligation = o; letter = t }
      go LineKind.Obligation (g, m) (a, o) = record { fields = g; count = m; three = l; no_attribute = a; letter = o }
      go LineKind.Other g (a, o, t) = λ s. rw (letter_other fs a o t) (or_true (not (all is_field fs)) true refl)

  shaped : Test (ltb n 3) → (k : LineKind) → k ≡ cond (ltb n 3) LineKind.Other (line_kind (get_or fs 0 [])) → ShapeIs fs k n
  shaped (passed few) k is = subst⁻¹ (λ k. ShapeIs fs k n) (rw few at is) (few_fields (ltb-true n 3 few))
  shaped (failed many) k is = by_kind (ltb-false n 3 many) k (rw many at is)

-- the shape of a line whose kind is found to be this one
pub of_kind : (fs : List Bytes) {r : LineShape} {k : LineKind} → r ≡ shape_of fs → r.kind ≡ k → ShapeIs fs k r.fields
of_kind fs {r} {k} is e =
    let n = (shape_of fs).fields in
    subst⁻¹ (λ m. ShapeIs fs k m) (ap (λ x. x.fields) is) (shaped fs n refl (test (ltb n 3)) k (sym e ∙ ap (λ x. x.kind) is))
