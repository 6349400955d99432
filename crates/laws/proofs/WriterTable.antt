-- The writer's tests and the rows of the paper's table, of an attribute line and of an element of the list.
use mathlib.Core.Path.{◌≡◌, refl, sym, subst, ap}
use mathlib.Core.Logic.{◌≢◌, ◌⊎◌, inl, inr}
use Prim.Native.Nat.{ℕ, zero, suc, ◌^◌, ◌≤◌, ◌<◌, zero-le, suc-le-suc}
use native.Mathlib.Omega.{arith}
use mathlib.Core.Bool.{true, false, not, Bool, ◌&&◌}
use mathlib.Core.List.Memᴰ
use mathlib.Core.List.{List, [], ◌∷◌, map, ◌++◌}
use lib.ListN.{length, get_or, drop, take}
use lib.Dec.{eqb, ltb}
use lib.Pow.{pow_pos}
use borrow.Author.Tests.{ltb-true, ltb-false, not-true, not-false, lt-ltb}
use Rattle.meaning.specs.Text.{Bytes, all, is_none, is_name, is_field, bytes, any}
use Rattle.meaning.specs.Model.{Attribute, name_of, kind_text, word_text, full, with_obligations, obligation_name, attribute_fields}
use Rattle.meaning.specs.Reading.{Line, attribute_line, tree_line, other_line, line_of, word_of, Sofar, well_placed, Tests, lowest, wrong_fields, non_zero, other_content, bad_unused, bad_masks, attribute_tests, element_tests, obligation_line, bad_stored, obligation_tests, with_element, may_have_obligations}
use Rattle.meaning.specs.Writing.{header_tests}
use Rattle.meaning.specs.Claims.Texts.{Among}
use Rattle.meaning.specs.Claims.PolicyFile.{Allowed, Placed}
use Rattle.meaning.specs.Claims.Refusals.{Used, TooMany}
use Rattle.meaning.specs.Claims.WriterRefusals.{header_rows, NonZeroFrom, BadName, Content, OtherContent, BadMasks, element_rows, obligation_rows}
use Rattle.laws.proofs.Types.{Kind, set, policy, Obligation, Element, Word, rule}
use Rattle.laws.proofs.Bools.{Test, passed, failed, test, contradiction, or_false}
use Rattle.laws.proofs.Places.{permit_word, obligations_with}
use Rattle.laws.proofs.Bounds.{placed_depth}
use Rattle.laws.proofs.Lines.{attribute_fields_lem, tree_fields, obligation_fields_lem}
use Rattle.laws.proofs.Rewritten.{only}
use Rattle.laws.proofs.Words.{word_allowed, allowed_word}
use Rattle.laws.proofs.Placed.{placed_well, well_placed_lem}
use Rattle.laws.proofs.Names.{among}
use Rattle.laws.proofs.Reflects.{Reflects, reflects, restated, refutes, either, either_of_three, opposite, never_holds, at_least, more_than, within, equal, is_nothing, Matches}
use Rattle.laws.proofs.BadFields.{not_letter, Beside, not_obligation, kind_not_obligation}
use Rattle.laws.proofs.Table.{attribute_rows}
use Rattle.laws.proofs.Rows.{on_tree, on_obligation}

-- Rows 3 to 6 and 14 of a line among the attribute lines
abbrev pub later_header_rows : List Attribute → List Bytes → List (ℕ × Type 0)
later_header_rows attrs fs = drop 1 (header_rows ⊥ attrs fs)

fails : (R : Type 0) → (R → ⊥) → Reflects false R
fails R n = reflects false R (λ e. contradiction e refl) (λ e x. n x)

none_before : (n : Bytes) → Reflects false (Among n [])
none_before n = fails (Among n []) (λ a. Memᴰ.not-nil a.1)

module _ (attrs : List Attribute) where
  -- by tests that are as many as the rows
  abbrev attribute_line_tests : Attribute → Tests
  attribute_line_tests a = attribute_tests (only attrs) a ++ ((14, false) ∷ [])

  attribute_matches : (a : Attribute) → Matches (attribute_line_tests a) (later_header_rows attrs (attribute_fields a))
  attribute_matches a =
      let (n3, r3, (n4, r4, (n5, r5, rest))) = attribute_rows (only attrs) a in
      (n3, r3, (n4, r4, (n5, r5, (refl, fails _ (λ x. not_letter a.several x.0 x.1), (refl, fails _ (not_obligation a.several), tt)))))

  -- a tree line, which is 6, and an obligation's, which is 14
  abbrev other_tests : Bytes → (tree obligation : Bool) → Tests
  other_tests n tree obligation = (3, not (is_name n)) ∷ (4, false) ∷ (5, false) ∷ (6, tree) ∷ (14, obligation) ∷ []

  tree_matches : (k : Kind) (d n w : Bytes) (ts : List Bytes) → Matches (other_tests n true false) (later_header_rows attrs (kind_text k ∷ d ∷ n ∷ w ∷ ts))
  tree_matches k d n w ts = (
    refl,
    on_tree (λ a. all is_name (a.name ∷ a.values) ≡ false) (λ k d n w ts. is_name n ≡ false) (λ n w. is_name n ≡ false) _ k d n w ts (opposite (is_name n)),
    (
      refl,
      on_tree (Used attrs) (λ k d n w ts. Among n []) (λ n w. Among n []) _ k d n w ts (none_before n),
      (refl, on_tree (TooMany attrs) (λ k d n w ts. 64 ≤ 0) (λ n w. ⊥) _ k d n w ts (at_least 64 0), (refl, record { holds = λ e. (k, refl); tests = λ x. refl }, (refl, fails _ (kind_not_obligation k), tt))),
    ),
  )

  obligation_line_matches : (n w : Bytes) → Matches (other_tests n false true) (later_header_rows attrs (bytes "O" ∷ n ∷ w ∷ []))
  obligation_line_matches n w = (
    refl,
    on_obligation (λ a. all is_name (a.name ∷ a.values) ≡ false) (λ k d n w ts. is_name n ≡ false) (λ n w. is_name n ≡ false) _ n w (opposite (is_name n)),
    (
      refl,
      on_obligation (Used attrs) (λ k d n w ts. Among n []) (λ n w. Among n []) _ n w (none_before n),
      (refl, on_obligation (TooMany attrs) (λ k d n w ts. 64 ≤ 0) (λ n w. ⊥) _ n w never_holds, (refl, fails _ (λ x. kind_not_obligation x.0 (sym x.1)), (refl, record { holds = λ e. refl; tests = λ x. refl }, tt))),
    ),
  )

  pub writer_rows : (fs : List Bytes) → Beside (only attrs) fs (header_tests (only attrs) (line_of fs)) (later_header_rows attrs fs)
  writer_rows fs = go (line_of fs) refl
    where
      go : (l : Line) → line_of fs ≡ l → wrong_fields (only attrs) fs l ≡ false → (ts : Tests) × (lowest (header_tests (only attrs) l) ≡ lowest ts) × Matches ts (later_header_rows attrs fs)
      go (attribute_line a) i h = (attribute_line_tests a, refl, subst (λ x. Matches (attribute_line_tests a) (later_header_rows attrs x)) (sym (attribute_fields_lem fs a i).are) (attribute_matches a))
      go (tree_line k d n w ts) i h = (other_tests n true false, refl, subst (λ x. Matches (other_tests n true false) (later_header_rows attrs x)) (sym (tree_fields fs k d n w ts i)) (tree_matches k d n w ts))
      go (obligation_line n w) i h = (other_tests n false true, refl, subst (λ x. Matches (other_tests n false true) (later_header_rows attrs x)) (sym (obligation_fields_lem fs n w i)) (obligation_line_matches n w))
      go other_line i h = contradiction refl (or_false (not (all is_field fs)) true h).1

-- Zeros behind a name and behind the masks
non_zero_lem : (xs : List ℕ) → Reflects (non_zero xs) ((i : ℕ) × (get_or xs i 0 ≢ 0))
non_zero_lem [] = record { holds = λ e. contradiction e refl; tests = λ x. absurd (x.1 refl) }
non_zero_lem (x ∷ xs) = restated _ _ _ to back (either (not (eqb x 0)) (non_zero xs) _ _ (refutes (eqb x 0) (x ≡ 0) (equal x 0)) (non_zero_lem xs))
  where
    to : (x ≢ 0) ⊎ ((i : ℕ) × (get_or xs i 0 ≢ 0)) → (i : ℕ) × (get_or (x ∷ xs) i 0 ≢ 0)
    to (inl n) = (0, n)
    to (inr (i, n)) = (suc i, n)

    back : (i : ℕ) × (get_or (x ∷ xs) i 0 ≢ 0) → (x ≢ 0) ⊎ ((i : ℕ) × (get_or xs i 0 ≢ 0))
    back (zero, n) = inl n
    back (suc i, n) = inr (i, n)

non_zero_from : (k : ℕ) (xs : List ℕ) → Reflects (non_zero (drop k xs)) (NonZeroFrom k xs)
non_zero_from zero xs = restated _ _ _ (λ x. (x.0, zero-le, x.1)) (λ x. (x.0, x.2)) (non_zero_lem xs)
non_zero_from (suc k) [] = record { holds = λ e. contradiction e refl; tests = λ x. absurd (x.2 refl) }
non_zero_from (suc k) (x ∷ xs) = restated _ _ _ (λ y. (suc y.0, suc-le-suc y.1, y.2)) back (non_zero_from k xs)
  where
    back : NonZeroFrom (suc k) (x ∷ xs) → NonZeroFrom k xs
    back (zero, l, n) = absurd (omega arith)
    back (suc i, l, n) = (i, omega arith, n)

-- Masks
too_high : (vs : List Bytes) (m : ℕ) → Reflects (ltb (full vs) m) (2 ^ length vs ≤ m)
too_high vs m = restated _ _ _ (λ l. omega (arith, l)) (λ l. omega (arith, l, pow_pos (length vs))) (more_than (full vs) m)

bad_masks_lem : (attrs : List Attribute) (ms : List ℕ) → Reflects (bad_masks attrs ms) (BadMasks attrs ms)
bad_masks_lem [] ms = restated _ _ _ inr back (non_zero_from 0 ms)
  where
    back : BadMasks [] ms → NonZeroFrom 0 ms
    back (inl (i, l, x)) = absurd (omega arith)
    back (inr x) = x
bad_masks_lem (a ∷ attrs) [] = record { holds = λ e. inl (0, suc-le-suc zero-le, inl refl); tests = λ x. refl }
bad_masks_lem (a ∷ attrs) (m ∷ ms) = restated _ _ _ to back (either_of_three (eqb m 0) (ltb (full a.values) m) (bad_masks attrs ms) _ _ _ (equal m 0) (too_high a.values m) (bad_masks_lem attrs ms))
  where
    to : (m ≡ 0) ⊎ ((2 ^ length a.values ≤ m) ⊎ BadMasks attrs ms) → BadMasks (a ∷ attrs) (m ∷ ms)
    to (inl e) = inl (0, suc-le-suc zero-le, inl e)
    to (inr (inl l)) = inl (0, suc-le-suc zero-le, inr l)
    to (inr (inr (inl (i, l, x)))) = inl (suc i, suc-le-suc l, x)
    to (inr (inr (inr (i, l, n)))) = inr (suc i, suc-le-suc l, n)

    back : BadMasks (a ∷ attrs) (m ∷ ms) → (m ≡ 0) ⊎ ((2 ^ length a.values ≤ m) ⊎ BadMasks attrs ms)
    back (inl (zero, l, inl e)) = inl e
    back (inl (zero, l, inr h)) = inr (inl h)
    back (inl (suc i, l, x)) = inr (inr (inl (i, omega arith, x)))
    back (inr (zero, l, n)) = absurd (omega arith)
    back (inr (suc i, l, n)) = inr (inr (inr (i, omega arith, n)))

-- Names, words, and what unused places hold
bad_name_lem : (len : ℕ) (name : Bytes) → Reflects (bad_stored len name) (BadName len name)
bad_name_lem len name = either_of_three _ _ _ _ _ _ (refutes _ _ (within 1 16 len)) (opposite (is_name (take len name))) (non_zero_from len name)

bad_word : (k : Kind) (w : Word) → Reflects (is_none (word_of k (word_text w))) (Allowed k w → ⊥)
bad_word k w = reflects _ _ (λ x a. contradiction x (allowed_word k w a)) (λ x n. n (word_allowed k w x))

content : (o : Obligation) → Reflects (other_content o) (Content o)
content o = either_of_three _ _ _ _ _ _ (refutes _ _ (equal o.len 0)) (non_zero_from 0 o.name) (refutes _ _ (record { holds = permit_word o.word; tests = λ e. rw e }))

content_from : (n : ℕ) (a b : Obligation) → Reflects (any other_content (drop n (a ∷ b ∷ []))) (((n < 1) × Content a) ⊎ ((n < 2) × Content b))
content_from zero a b = restated _ _ _ to back (either _ _ _ _ (content a) (either _ _ _ _ (content b) never_holds))
  where
    to : Content a ⊎ (Content b ⊎ ⊥) → ((0 < 1) × Content a) ⊎ ((0 < 2) × Content b)
    to (inl c) = inl (omega arith, c)
    to (inr (inl c)) = inr (omega arith, c)
    to (inr (inr x)) = absurd x

    back : ((0 < 1) × Content a) ⊎ ((0 < 2) × Content b) → Content a ⊎ (Content b ⊎ ⊥)
    back (inl c) = inl c.1
    back (inr c) = inr (inl c.1)
content_from (suc zero) a b = restated _ _ _ to back (either _ _ _ _ (content b) never_holds)
  where
    to : Content b ⊎ ⊥ → ((1 < 1) × Content a) ⊎ ((1 < 2) × Content b)
    to (inl c) = inr (omega arith, c)
    to (inr x) = absurd x

    back : ((1 < 1) × Content a) ⊎ ((1 < 2) × Content b) → Content b ⊎ ⊥
    back (inl c) = absurd (omega (arith, c.0))
    back (inr c) = inl c.1
content_from (suc (suc n)) a b = nothing_left n
  where
    none : ((suc (suc n) < 1) × Content a) ⊎ ((suc (suc n) < 2) × Content b) → ⊥
    none (inl c) = omega (arith, c.0)
    none (inr c) = omega (arith, c.0)

    nothing_left : (k : ℕ) → Reflects (any other_content (drop k [])) (((suc (suc n) < 1) × Content a) ⊎ ((suc (suc n) < 2) × Content b))
    nothing_left zero = fails _ none
    nothing_left (suc k) = fails _ none

pub bad_unused_lem : (e : Element) → Reflects (bad_unused e) (OtherContent e)
bad_unused_lem e = content_from e.obligations e.first e.second

-- Rows 3, 4, 14 and 7 of an obligation behind earlier ones of its element
pub obligation_matches : (s : Sofar) (e : Element) (earlier : List Obligation) (o : Obligation) (later : List Obligation) → length earlier < 2
    → Matches (obligation_tests (with_element s (with_obligations earlier e)) (word_text o.word) o) (obligation_rows e.kind earlier (o ∷ later))
obligation_matches s e earlier o later room = rw (obligations_with earlier e (omega arith), lt-ltb (length earlier) 2 room) (refl, bad_name_lem o.len o.name, (refl, among (obligation_name o) (map obligation_name earlier), (refl, of_rule_lem e.kind, (refl, bad_word rule o.word, tt))))
  where
    of_rule_lem : (k : Kind) → Reflects (not (may_have_obligations k && true)) (k ≡ rule)
    of_rule_lem set = fails _ (λ e. contradiction refl (ap may_have_obligations e))
    of_rule_lem policy = fails _ (λ e. contradiction refl (ap may_have_obligations e))
    of_rule_lem rule = record { holds = λ e. refl; tests = λ e. refl }

-- Rows 3 to 8 of an element
module _ (s : Sofar) (e : Element) where
  abbrev attrs : List Attribute
  attrs = s.attributes

  abbrev before : List Element
  before = s.before

  badly_placed : Reflects (not (well_placed e.kind e.depth before)) ((7 < e.depth) ⊎ (Placed before e → ⊥))
  badly_placed = reflects _ _ (λ x. bad x (test (ltb 7 e.depth))) good
    where
      bad : not (well_placed e.kind e.depth before) ≡ true → Test (ltb 7 e.depth) → (7 < e.depth) ⊎ (Placed before e → ⊥)
      bad x (passed l) = inl (ltb-true 7 e.depth l)
      bad x (failed l) = inr (λ p. contradiction (placed_well before e.kind e.depth (ltb-false 7 e.depth l) p) (not-true (well_placed e.kind e.depth before) x))

      good : not (well_placed e.kind e.depth before) ≡ false → (7 < e.depth) ⊎ (Placed before e → ⊥) → ⊥
      good x (inl l) = omega (arith, l, placed_depth e.kind e.depth before (not-false (well_placed e.kind e.depth before) x))
      good x (inr n) = n (well_placed_lem before e.kind e.depth (not-false (well_placed e.kind e.depth before) x))

  pub element_matches : Matches (element_tests s (word_text e.word) e) (element_rows attrs before e)
  element_matches = (
    refl,
    either _ _ _ _ (bad_name_lem e.len e.name) (bad_unused_lem e),
    (
      refl,
      among (name_of e) (map name_of before),
      (refl, at_least 64 (length before), (refl, either _ _ _ _ (is_nothing attrs) badly_placed, (refl, bad_word e.kind e.word, (refl, bad_masks_lem attrs e.masks, tt)))),
    ),
  )
