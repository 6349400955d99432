-- One line among attribute lines: the step over an attribute line, and the refusals of any other.
use Rattle.std.specs.Prelude.{Ok, Err}
use Prim.Native.Nat.{ℕ, ◌+◌}
use mathlib.Core.Path.{◌≡◌, refl, sym, ap, ◌∙◌}
use mathlib.Core.Bool.{Bool, true, false}
use mathlib.Core.List.{List, [], ◌∷◌}
use lib.Dec.{lit≤}
use lib.ListN.{length, get_or}
use Rattle.meaning.specs.declared.Kind.{Kind}
use Rattle.meaning.specs.Text.{Bytes, cut, tab, is_name}
use Rattle.meaning.specs.Reading.{Sofar, line_of, wrong_fields}
use Rattle.meaning.specs.Writing.{header_tests}
use Rattle.laws.proofs.Reading.{lowest_zero}
use Rattle.laws.proofs.Bounds.{header_numbered}
use Rattle.laws.proofs.Reread.{no_element}
use Rattle.refusals.specs.declared.Refusal.{Refusal}
use Rattle.refusals.specs.declared.Refusal.TheVariants.{BadLine}
use Rattle.refusals.specs.Numbers.{number_of}
use Rattle.layout.specs.Places.{part}
use Rattle.layout.proofs.Laws.{attributes_length}
use Rattle.attribute_lines.specs.declared.State.{State}
use Rattle.attribute_lines.specs.Sofar.{refusal_by, refusal_of, AttributeLine, TreeLine, ObligationLine}
use Rattle.attribute_lines.specs.Steps.{Verdict, Next, StepIs}
use Rattle.attribute_lines.proofs.LineKinds.{wrong_refused}
use Rattle.attribute_lines.proofs.AttributeLines.{line_is}
use Rattle.attribute_lines.proofs.TreeShape.{wrong_count_lem, by_tests}
use Rattle.attribute_lines.proofs.ObligationShape.{not_three, by_obligation_tests}
use Rattle.header.specs.Among.{no_rows, blank, sofar_at, Among, Past}

-- The writer's tests of an attribute line are those of a file
attribute_alike : {several : Bool} (s : Sofar) (fs : List Bytes) {n : ℕ} → AttributeLine several fs n → refusal_by header_tests s fs ≡ refusal_of s fs
unfolding refusal_by
attribute_alike s fs l = rw (line_is fs l)

-- A tree line: 2 for its field count, 3 for its name, else 6
module _ (s : Sofar) (fs : List Bytes) (k : Kind) (n : ℕ) (line : TreeLine fs k n) where
  pub count_refused : (n ≡ 4 + length s.attributes → ⊥) → refusal_by header_tests s fs ≡ 2
  count_refused h = wrong_refused header_tests s fs (wrong_count_lem s fs k n line h)

  pub name_refused : n ≡ 4 + length s.attributes → is_name (get_or fs 2 []) ≡ false → refusal_by header_tests s fs ≡ 3
  name_refused count bad = by_tests s fs k n line count header_tests ∙ rw bad

  pub place_refused : n ≡ 4 + length s.attributes → is_name (get_or fs 2 []) ≡ true → refusal_by header_tests s fs ≡ 6
  place_refused count good = by_tests s fs k n line count header_tests ∙ rw good

-- An obligation's line: 2 for its field count, 3 for its name, else 14
module _ (s : Sofar) (fs : List Bytes) (n : ℕ) (line : ObligationLine fs n) where
  pub not_three_refused : (n ≡ 3 → ⊥) → refusal_by header_tests s fs ≡ 2
  not_three_refused h = wrong_refused header_tests s fs (not_three s fs n line h)

  pub bad_name_refused : n ≡ 3 → is_name (get_or fs 1 []) ≡ false → refusal_by header_tests s fs ≡ 3
  bad_name_refused three bad = by_obligation_tests s fs n line three header_tests ∙ rw bad

  pub no_element_refused : n ≡ 3 → is_name (get_or fs 1 []) ≡ true → refusal_by header_tests s fs ≡ 14
  no_element_refused three good = by_obligation_tests s fs n line three header_tests ∙ rw good

-- The step over a line
module _ (h : Bytes) (st : State) (end : ℕ) where
  abbrev fields : List Bytes
  fields = cut tab (part h st.at end)

  pub past_attribute : {several : Bool} {n : ℕ} {after : State} (r : Verdict) → AttributeLine several fields n → StepIs h no_rows blank no_rows blank st end after r → Past h st end after r
  past_attribute (Ok done) line step = record { refusal = step.refusal ∙ sym (attribute_alike (sofar_at h st) fields line); next = step.next; stays = tt }
  past_attribute (Err why) line step = record { refusal = step.refusal ∙ sym (attribute_alike (sofar_at h st) fields line); next = tt; stays = step.stays.state_is }

  pub past_tree : (a : ℕ) (why : Refusal) → a ≡ st.attributes.len → ((s : Sofar) → length s.attributes ≡ a → number_of why ≡ refusal_by header_tests s fields) → Past h st end st (Err why)
  past_tree a why count is = record { refusal = is (sofar_at h st) (attributes_length h st.attributes ∙ sym count); next = tt; stays = refl }

  pub past_obligation : (why : Refusal) → ((s : Sofar) → number_of why ≡ refusal_by header_tests s fields) → Past h st end st (Err why)
  past_obligation why is = record { refusal = is (sofar_at h st); next = tt; stays = refl }

  pub past_other : wrong_fields (sofar_at h st) fields (line_of fields) ≡ true → Past h st end st (Err BadLine)
  past_other wrong = record { refusal = sym (wrong_refused header_tests (sofar_at h st) fields wrong); next = tt; stays = refl }

  -- behind a line that is not refused
  pub among_next : (next : State) → Among h st → refusal_by header_tests (sofar_at h st) fields ≡ 0 → Next h no_rows blank no_rows blank st end next → Among h next
  unfolding refusal_by
  among_next next among z n =
      record {
        ready = n.ready;
        no_element = ap (λ x. x.sofar.before) n.laid ∙ no_element (sofar_at h st) fields (line_of fields) refl (lowest_zero ((2, wrong_fields (sofar_at h st) fields (line_of fields)) ∷ header_tests (sofar_at h st) (line_of fields)) (lit≤ tt, header_numbered (sofar_at h st) (line_of fields)) z) among.no_element;
      }
