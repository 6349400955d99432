-- The writer and the obligations of an element: the first bad one is refused on its line, and else the element is taken.
use mathlib.Core.Path.{◌≡◌, refl, sym, ap, ◌∙◌, subst, subst⁻¹}
use mathlib.Core.Logic.{◌⊎◌, inl, inr}
use Prim.Native.Nat.{ℕ, zero, suc, ◌+◌, ◌-◌, ◌≤◌, ◌<◌}
use native.Mathlib.Omega.{arith}
use mathlib.Core.Bool.{false, cond}
use mathlib.Core.List.{List, [], ◌∷◌, ◌++◌, map, reverse, reverse-cons}
use lib.ListN.{length, take, length-append}
use lib.Seq.{append_snoc, take-append_seam, take-append-add}
use lib.Dec.{ltb, lit≤}
use borrow.Author.Tests.{le-ltb, lt-ltb}
use Rattle.meaning.specs.Text.{Bytes, gathered, line}
use Rattle.meaning.specs.Model.{Attribute, places_of, obligations_of, with_obligations, Result, refused, given, ◌then◌, unless, word_text, attribute_fields}
use Rattle.meaning.specs.Reading.{Sofar, Tests, lowest, bad_name, bad_unused, element_tests, obligation_tests, with_element, with_obligation}
use Rattle.meaning.specs.Writing.{read_obligations, read_elements, obligation_fields}
use Rattle.meaning.specs.Claims.Texts.{All}
use Rattle.meaning.specs.Claims.PolicyFile.{GoodLines}
use Rattle.meaning.specs.Claims.Refusals.{Lowest}
use Rattle.meaning.specs.Claims.Writing.{Shaped}
use Rattle.meaning.specs.Claims.WriterRefusals.{OtherContent, FileLines, BadElement, obligation_rows, BadObligation}
use Rattle.laws.proofs.Types.{Obligation, Element}
use Rattle.laws.proofs.Bools.{contradiction, or_false}
use Rattle.laws.proofs.Reading.{Passes, lowest_zero, passes_lowest, obligation_numbered}
use Rattle.laws.proofs.Places.{own_obligations_lem, obligations_with, all_with, AllPass, read_past, lines_in}
use Rattle.laws.proofs.Rewritten.{only}
use Rattle.laws.proofs.LinesBack.{passed_good}
use Rattle.laws.proofs.FirstBad.{unless_refused}
use Rattle.laws.proofs.GoodSofar.{GoodSofar, obligation_sofar, good_lines}
use Rattle.laws.proofs.WellFormed.{one_taken}
use Rattle.laws.proofs.Reflects.{unheld, lowest_row, row_lowest, row_number}
use Rattle.laws.proofs.WriterTable.{bad_unused_lem, obligation_matches}

-- Elements behind attribute lines: one of them or of its obligations is the first bad one, or all are lines of the file
abbrev pub Ended : Bytes → List Element → Result Sofar → Type 0
Ended header es (refused n m) = BadElement header es n m ⊎ BadObligation header es n m
Ended header es (given z) = FileLines header es

-- at most two stand before another
places_two : (e : Element) (earlier later : List Obligation) → places_of e ≡ earlier ++ later → 2 ≡ length earlier + length later
places_two e earlier later h = ap length h ∙ length-append earlier later

-- An element that passed, whose obligations are read from one on, behind those that break no rule
module _ (header : Bytes) (size : length header ≤ 16384) (whole : List Element) (j : ℕ) (s : Sofar) (rows : List (List Bytes)) (e : Element) (es : List Element)
    (shaped : Shaped e) (passed-line : Passes (element_tests s (word_text e.word) e)) (text : header ≡ gathered line (map attribute_fields s.attributes)) (at : whole ≡ reverse s.before ++ (e ∷ es)) (count : j ≡ suc (length rows))
    (taken : (done : List (List Bytes)) → GoodSofar (with_element s e) done → j + suc e.obligations ≡ suc (length done) → Ended header whole (read_elements (j + suc e.obligations) (with_element s e) es)) where
  abbrev third : Sofar → Result Sofar
  third t = unless (cond (ltb 2 e.obligations) 14 0) (j + 3) (given t)

  abbrev others : Sofar → Result Sofar
  others t = read_elements (j + suc e.obligations) t es

  abbrev with_earlier : List Obligation → Sofar
  with_earlier os = with_element s (with_obligations os e)

  clean : bad_unused e ≡ false
  clean = (or_false (bad_name e) (bad_unused e) passed-line.0).1

  -- the bad one, on the line behind those read so far
  bad : (c : ℕ) (earlier later : List Obligation) (done : List (List Bytes)) → places_of e ≡ earlier ++ later → length earlier < e.obligations → GoodSofar (with_earlier earlier) done → Lowest c (obligation_rows e.kind earlier later) → (m : ℕ) → m ≡ suc (length done) → BadObligation header whole c m
  bad c earlier later done places more g number m second = record {
    before = reverse s.before;
    bad = e;
    after = es;
    are = at;
    no_content = λ x. contradiction ((bad_unused_lem e).tests x) clean;
    earlier = earlier;
    later = later;
    are_places = places;
    one_more = more;
    lines = record { attributes = s.attributes; rows = done; header_size = size; header_text = text; good = subst (GoodLines done s.attributes) (reverse-cons (with_obligations earlier e) s.before) (good_lines (with_earlier earlier) done g) };
    number = number;
    second = second;
  }

  pub obligations_end : (n k : ℕ) (earlier later : List Obligation) (done : List (List Bytes)) → places_of e ≡ earlier ++ later → length earlier + n ≡ e.obligations → All (λ o. length o.name ≡ 16) later
      → GoodSofar (with_earlier earlier) done → length done ≡ length rows + suc (length earlier) → k ≡ suc (length done) → Ended header whole (read_obligations k (with_earlier earlier) (take n later) then third then others)
  obligations_end zero k earlier later done places counted sizes g reached at-line =
      let two = places_two e earlier later places in
      let few : e.obligations ≤ 2 = omega (arith, counted) in
      let whole-count : e.obligations ≡ length earlier = omega (arith, counted) in
      let all_read : obligations_of e ≡ earlier = ap (λ n. take n (places_of e)) whole-count ∙ ap (take (length earlier)) places ∙ take-append_seam earlier later in
      let own : with_obligations earlier e ≡ e = ap (λ os. with_obligations os e) (sym all_read) ∙ own_obligations_lem e few shaped clean in
      rw (le-ltb 2 e.obligations few) (subst⁻¹ (λ x. Ended header whole (others (with_element s x))) own (taken done (subst (λ x. GoodSofar (with_element s x) done) own g) (omega (arith, count, reached, counted))))
  obligations_end (suc n) k earlier [] done places counted sizes g reached at-line =
      let two = places_two e earlier [] places in
      let many : 2 < e.obligations = omega (arith, counted) in
      rw (lt-ltb 2 e.obligations many) (inr (bad 14 earlier [] done places (omega (arith, counted)) g (inl (tt, refl)) (j + 3) (omega (arith, count, reached))))
  obligations_end (suc n) k earlier (o ∷ later) done places counted sizes g reached at-line =
      go (lowest tests) refl
      (λ p. let grown = done ++ (obligation_fields o ∷ []) in
      let held = subst (λ os. GoodSofar (with_earlier (os ++ (o ∷ []))) grown) same (obligation_sofar (with_earlier earlier) done (word_text o.word) o (passed_good (with_earlier earlier) o sizes.0 p) p g) in
      let longer = length-append earlier (o ∷ []) in
      let one_more = length-append done (obligation_fields o ∷ []) in
      subst⁻¹ (λ os. Ended header whole (read_obligations (suc k) (with_earlier (os ++ (o ∷ []))) (take n later) then third then others)) same
      (obligations_end n (suc k) (earlier ++ (o ∷ [])) later grown (places ∙ sym (append_snoc earlier o later)) (omega (arith, counted, longer)) sizes.1 held (omega (arith, reached, longer, one_more)) (omega (arith, at-line, one_more))))
    where
      tests : Tests
      tests = obligation_tests (with_earlier earlier) (word_text o.word) o

      two : 2 ≡ length earlier + length (o ∷ later)
      two = places_two e earlier (o ∷ later) places

      same : obligations_of (with_obligations earlier e) ≡ earlier
      same = obligations_with earlier e (omega (arith, two))

      later_read : Result Sofar
      later_read = read_obligations (suc k) (with_obligation (with_earlier earlier) o) (take n later)

      go : (c : ℕ) → lowest tests ≡ c → (Passes tests → Ended header whole (later_read then third then others)) → Ended header whole (unless c k later_read then third then others)
      go zero i more = more (lowest_zero tests (obligation_numbered (with_earlier earlier) (word_text o.word) o) i)
      go (suc c) i more =
          let number = lowest_row tests (obligation_rows e.kind earlier (o ∷ later)) c (obligation_matches s e earlier o later (omega (arith, two))) i in
          inr (bad (suc c) earlier (o ∷ later) done places (omega (arith, counted)) g number k at-line)

-- And the other way: the first bad obligation is refused
module _ (header : Bytes) (es : List Element) (n m : ℕ) (b : BadObligation header es n m) where
  abbrev e : Element
  e = b.bad

  abbrev attrs : List Attribute
  attrs = b.lines.attributes

  abbrev behind_them : Sofar
  behind_them = record { attributes = attrs; before = reverse b.before }

  -- the tests that it and those before it pass
  passes_line : Passes (element_tests behind_them (word_text e.word) (with_obligations b.earlier e)) → Passes (element_tests behind_them (word_text e.word) e)
  passes_line p = (rw ((or_false (bad_name e) (bad_unused (with_obligations b.earlier e)) p.0).0, unheld (bad_unused e) (OtherContent e) (bad_unused_lem e) b.no_content), p.1)

  refused_at : (later : List Obligation) → places_of e ≡ b.earlier ++ later → Lowest n (obligation_rows e.kind b.earlier later) → (k : ℕ) → e.obligations ≡ length b.earlier + suc k → (j : ℕ) → AllPass (with_element behind_them (with_obligations [] e)) b.earlier
      → (read_obligations (suc j) (with_element behind_them (with_obligations [] e)) (obligations_of e) then λ t. unless (cond (ltb 2 e.obligations) 14 0) (j + 3) (given t)) ≡ refused n (suc (j + length b.earlier))
  refused_at later places number k counted j pass =
      let two = places_two e b.earlier later places in
      let own = with_element behind_them (with_obligations [] e) in
      let with-these = with_element behind_them (with_obligations b.earlier e) in
      let from : obligations_of e ≡ b.earlier ++ take (suc k) later = ap (λ i. take i (places_of e)) counted ∙ ap (take (length b.earlier + suc k)) places ∙ take-append-add b.earlier later (suc k) in
      let past = ap (read_obligations (suc j) own) from ∙ read_past (suc j) own b.earlier (take (suc k) later) pass in
      let whole = all_with behind_them e b.earlier (omega (arith, two)) in
      let at-line : suc j + length b.earlier ≡ suc (j + length b.earlier) = omega arith in
      ap (λ x. x then λ t. unless (cond (ltb 2 e.obligations) 14 0) (j + 3) (given t)) (past ∙ ap (λ x. read_obligations (suc j + length b.earlier) x (take (suc k) later)) whole ∙ ap (λ i. read_obligations i with-these (take (suc k) later)) at-line)
      ∙ go later two number
    where
      go : (later : List Obligation) → 2 ≡ length b.earlier + length later → Lowest n (obligation_rows e.kind b.earlier later)
          → (read_obligations (suc (j + length b.earlier)) (with_element behind_them (with_obligations b.earlier e)) (take (suc k) later) then λ t. unless (cond (ltb 2 e.obligations) 14 0) (j + 3) (given t)) ≡ refused n (suc (j + length b.earlier))
      go [] two (inl (x, i)) = let at-line : j + 3 ≡ suc (j + length b.earlier) = omega (arith, two) in rw (lt-ltb 2 e.obligations (omega (arith, counted, two)), i, at-line)
      go [] two (inr (x, l)) = absurd (x tt)
      go (o ∷ later) two number =
          let with-these = with_element behind_them (with_obligations b.earlier e) in
          let tests = obligation_tests with-these (word_text o.word) o in
          let rows = obligation_rows e.kind b.earlier (o ∷ later) in
          let lowest-is = row_lowest tests rows n (obligation_matches behind_them e b.earlier o later (omega (arith, two))) number in
          let big = row_number rows n (lit≤ tt, (lit≤ tt, (lit≤ tt, (lit≤ tt, tt)))) number in
          ap (λ x. x then λ t. unless (cond (ltb 2 e.obligations) 14 0) (j + 3) (given t)) (unless_refused (lowest tests) n (suc (j + length b.earlier)) (read_obligations (suc (suc (j + length b.earlier))) (with_obligation with-these o) (take k later)) lowest-is big)

  pub obligation_refused : read_elements (suc (length attrs)) (only attrs) es ≡ refused n m
  obligation_refused =
      let f = b.lines in
      let os = b.earlier in
      let two = places_two e os b.later b.are_places in
      let same = obligations_with os e (omega (arith, two)) in
      let j = suc (length attrs + lines_in b.before) in
      let (own, read, rows) = one_taken f.rows attrs b.before (with_obligations os e) f.good j refl (e ∷ b.after) in
      let tests = element_tests behind_them (word_text e.word) e in
      let obligations = read_obligations (suc j) (with_element behind_them (with_obligations [] e)) (obligations_of e) in
      let k : ℕ = e.obligations - suc (length os) in
      let counted : e.obligations ≡ length os + suc k = omega (arith, b.one_more) in
      ap (read_elements (suc (length attrs)) (only attrs)) b.are ∙ read
      ∙ ap (λ c. unless c j obligations then (λ t. unless (cond (ltb 2 e.obligations) 14 0) (j + 3) (given t)) then λ t. read_elements (j + suc e.obligations) t b.after) (passes_lowest tests (passes_line own.0))
      ∙ ap (λ x. x then λ t. read_elements (j + suc e.obligations) t b.after) (refused_at b.later b.are_places b.number k counted j (subst (AllPass (with_element behind_them (with_obligations [] e))) same own.1))
      ∙ ap (refused n) (omega (arith, b.second, rows, ap length same))
