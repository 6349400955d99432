-- The writer refuses, with two numbers, exactly as the table says.
use mathlib.Core.Path.{◌≡◌, refl, sym, ap, ◌∙◌, subst}
use mathlib.Core.Logic.{inl, inr, ◌↔◌}
use Prim.Native.Nat.{ℕ, zero, suc, ◌≤◌, zero-le, suc-le-suc, ◌+◌}
use native.Mathlib.Omega.{arith}
use mathlib.Core.Bool.{false, cond}
use mathlib.Core.List.{List, [], ◌∷◌, ◌++◌, map, reverse, reverse-cons, reverse-reverse, append-nil}
use lib.ListN.{length, length-append, length-map, length-reverse}
use lib.Seq.{append_snoc}
use lib.Dec.{ltb, lit≤}
use borrow.Author.Tests.{ltb-true, ltb-false, lt-ltb, le-ltb}
use Rattle.meaning.specs.Text.{Bytes, empty, gathered, cut, join, tab, line}
use Rattle.meaning.specs.Model.{Attribute, Result, refused, given, ◌then◌, unless, word_text, with_obligations, obligations_of, places_of, attribute_fields}
use Rattle.meaning.specs.Reading.{Sofar, line_of, Tests, lowest, element_tests, with_element, extended, nothing, read_text, short, finished}
use Rattle.meaning.specs.Report.{fitted}
use Rattle.meaning.specs.Writing.{header_tests, read_elements, element_fields, write_file, element_lines, read_obligations}
use Rattle.meaning.specs.Claims.Texts.{All}
use Rattle.meaning.specs.Claims.PolicyFile.{GoodLines}
use Rattle.meaning.specs.Claims.Refusals.{Lowest}
use Rattle.meaning.specs.Claims.Writing.{Shaped}
use Rattle.meaning.specs.Claims.WriterRefusals.{BadAttributeLine, element_rows, FileLines, BadElement, BadFile, RefusesToWrite, BadObligation}
use Rattle.laws.proofs.Types.{Element}
use Rattle.laws.proofs.Bools.{Test, passed, failed, test}
use Rattle.laws.proofs.Reading.{refused-given, Passes, lowest_zero, element_numbered, PassesLine, short_text, text_read}
use Rattle.laws.proofs.Bounds.{header_numbered}
use Rattle.laws.proofs.Rewritten.{only, tree_text, gathered_append, line_fields, tree_fields_text}
use Rattle.laws.proofs.Reread.{header_passes, no_element}
use Rattle.laws.proofs.FirstBad.{refused_refused, unless_refused, FirstBad, text_refused, text_given, bad_refused, rows_read}
use Rattle.laws.proofs.GoodSofar.{not_empty, GoodSofar, nothing_sofar, line_sofar, element_sofar, good_lines}
use Rattle.laws.proofs.WellFormed.{header_read, header_free, good_taken, rows_are}
use Rattle.laws.proofs.Reflects.{lowest_row, row_lowest, row_number}
use Rattle.laws.proofs.BadFields.{Beside, fails_row, row_fails}
use Rattle.laws.proofs.WriterTable.{later_header_rows, writer_rows, element_matches}
use Rattle.laws.proofs.WriterObligations.{Ended, obligation_refused, obligations_end}

-- What was read of the attribute lines: no rule is broken, and no element is among them
record HeaderSofar (s : Sofar) (rows : List (List Bytes)) : Type 0 where
  pub sofar : GoodSofar s rows
  pub alone : s ≡ only s.attributes

header_sofar : (s : Sofar) (rows : List (List Bytes)) (fs : List Bytes) → PassesLine header_tests header_numbered s fs (line_of fs) → HeaderSofar s rows → HeaderSofar (extended s (line_of fs)) (rows ++ (fs ∷ []))
header_sofar s rows fs p h =
    let x = extended s (line_of fs) in
    let none : x.before ≡ [] = no_element s fs (line_of fs) refl p (ap (λ y. y.before) h.alone) in
    record { sofar = line_sofar s rows fs (header_passes s fs (line_of fs) p) h.sofar; alone = λ i. record { attributes = x.attributes; before = none i } }

nothing_header : HeaderSofar nothing []
nothing_header = record { sofar = nothing_sofar; alone = refl }

header_rows_lem : (s : Sofar) (rows : List (List Bytes)) → HeaderSofar s rows → rows ≡ map attribute_fields s.attributes
header_rows_lem s rows h = h.sofar.are ∙ ap (λ x. map attribute_fields s.attributes ++ gathered (line_fields s.attributes) (reverse x.before)) h.alone ∙ append-nil (map attribute_fields s.attributes)

-- The first bad line of them
attribute_line_lem : (header : Bytes) (n m : ℕ) → FirstBad header_tests header_numbered HeaderSofar header_sofar nothing_header header n m → BadAttributeLine header n m
attribute_line_lem header n m b =
    let s = b.sofar in
    let fs = cut tab b.bad in
    let rows = header_rows_lem s b.before b.held in
    let beside = subst (λ x. Beside x fs (header_tests x (line_of fs)) (later_header_rows s.attributes fs)) (sym b.held.alone) (writer_rows s.attributes fs) in
    record {
      attributes = s.attributes;
      bad = b.bad;
      after = b.after;
      are = b.are ∙ ap (λ x. map (join tab) x ++ (b.bad ∷ b.after)) rows;
      is_line = b.is_line;
      good = subst (λ x. GoodLines x s.attributes []) rows (subst (λ x. GoodLines b.before s.attributes (reverse x.before)) b.held.alone (good_lines s b.before b.held.sofar));
      number = fails_row header_tests header_numbered s fs (later_header_rows s.attributes fs) beside n b.after b.fails;
      second = b.second ∙ ap (λ x. suc (length x)) rows ∙ ap suc (length-map s.attributes attribute_fields);
    }

attribute_line_refused : (header : Bytes) (n m : ℕ) → BadAttributeLine header n m → read_text header_tests header ≡ refused n m
attribute_line_refused header n m b =
    let attrs = b.attributes in
    let rows = map attribute_fields attrs in
    let fs = cut tab b.bad in
    let fails = row_fails header_tests header_numbered (only attrs) fs (later_header_rows attrs fs) (writer_rows attrs fs) (lit≤ tt, (lit≤ tt, (lit≤ tt, (lit≤ tt, (lit≤ tt, tt))))) n b.after b.number in
    bad_refused header_tests header_numbered (only attrs) rows (header_read rows attrs [] b.good) header b.bad b.after n b.are b.is_line fails
    ∙ ap (refused n) (ap suc (length-map attrs attribute_fields) ∙ sym b.second)

-- Elements behind attribute lines: one of them or of its obligations is the first bad one, or all are lines of the file
module _ (header : Bytes) (size : length header ≤ 16384) (whole : List Element) where
  elements_end : (j : ℕ) (s : Sofar) (rows : List (List Bytes)) (es : List Element) → GoodSofar s rows → header ≡ gathered line (map attribute_fields s.attributes) → All Shaped es → whole ≡ reverse s.before ++ es → j ≡ suc (length rows)
      → Ended header whole (read_elements j s es)
  elements_end j s rows [] g text shaped at count =
      record { attributes = s.attributes; rows = rows; header_size = size; header_text = text; good = subst (GoodLines rows s.attributes) (sym (at ∙ append-nil (reverse s.before))) (good_lines s rows g) }
  elements_end j s rows (e ∷ es) g text shaped at count =
      go (lowest tests) refl
      (λ p. obligations_end header size whole j s rows e es shaped.0 p text at count
      (λ done h reached. elements_end (j + suc e.obligations) (with_element s e) done es h text shaped.1 (at ∙ sym (append_snoc (reverse s.before) e es) ∙ ap (λ x. x ++ es) (sym (reverse-cons e s.before))) reached)
      e.obligations (suc j) [] (places_of e) (rows ++ (row ∷ [])) refl (omega arith) shaped.0.places_size (element_sofar s rows e shaped.0 p g) (length-append rows (row ∷ [])) (omega (arith, count, length-append rows (row ∷ []))))
    where
      tests : Tests
      tests = element_tests s (word_text e.word) e

      row : List Bytes
      row = element_fields s.attributes e

      later : Result Sofar
      later = read_obligations (suc j) (with_element s (with_obligations [] e)) (obligations_of e)

      others : Result Sofar → Result Sofar
      others x = x then (λ t. unless (cond (ltb 2 e.obligations) 14 0) (j + 3) (given t)) then λ t. read_elements (j + suc e.obligations) t es

      go : (c : ℕ) → lowest tests ≡ c → (Passes tests → Ended header whole (others later)) → Ended header whole (others (unless c j later))
      go zero i more = more (lowest_zero tests (element_numbered s (word_text e.word) e) i)
      go (suc c) i more = inl (record {
        before = reverse s.before;
        bad = e;
        after = es;
        are = at;
        lines = record { attributes = s.attributes; rows = rows; header_size = size; header_text = text; good = good_lines s rows g };
        number = subst (λ x. Lowest (suc c) (element_rows s.attributes x e)) (sym (reverse-reverse s.before)) (lowest_row tests (element_rows s.attributes s.before e) c (element_matches s e) i);
        second = count;
      })

-- What the writer does behind the attribute lines
abbrev behind : ℕ → Bytes → Result Sofar → Result Bytes
behind room header r = r then finished then λ p. short (header ++ gathered (element_lines p.attributes) p.elements) then fitted room

module _ (room : ℕ) (header : Bytes) where
  header_taken : (good : List Element) (f : FileLines header good) (es : List Element) → write_file room header es ≡ behind room header (read_elements (suc (length f.attributes)) (only f.attributes) es)
  unfolding write_file
  header_taken good f es =
      let attrs = f.attributes in
      rw (short_text header f.header_size, rows_read header_tests header_numbered (only attrs) (map attribute_fields attrs) (header_read f.rows attrs good f.good) header f.header_text (header_free f.rows attrs good f.good))

  element_refused : (es : List Element) (n m : ℕ) → BadElement header es n m → write_file room header es ≡ refused n m
  element_refused es n m b =
      let f = b.lines in
      let s : Sofar = record { attributes = f.attributes; before = reverse b.before } in
      let tests = element_tests s (word_text b.bad.word) b.bad in
      let rows = element_rows f.attributes (reverse b.before) b.bad in
      let number = row_lowest tests rows n (element_matches s b.bad) b.number in
      let big = row_number rows n (lit≤ tt, (lit≤ tt, (lit≤ tt, (lit≤ tt, (lit≤ tt, (lit≤ tt, tt)))))) b.number in
      let j = suc (length f.rows) in
      let own = unless_refused (lowest tests) n j (read_obligations (suc j) (with_element s (with_obligations [] b.bad)) (obligations_of b.bad)) number big in
      header_taken b.before f es
      ∙ ap (behind room header)
      (ap (read_elements (suc (length f.attributes)) (only f.attributes)) b.are ∙ good_taken f.rows f.attributes b.before f.good (b.bad ∷ b.after)
      ∙ ap (λ x. x then (λ t. unless (cond (ltb 2 b.bad.obligations) 14 0) (j + 3) (given t)) then λ t. read_elements (j + suc b.bad.obligations) t b.after) own)
      ∙ ap (refused n) (sym b.second)

-- All lines are good: 9, 1, 11
abbrev ending : ℕ → List Element → Bytes → Result Bytes
ending room [] t = refused 9 0
ending room (e ∷ es) t = short t then fitted room

file_text : (header : Bytes) (es : List Element) (f : FileLines header es) → header ++ tree_text f.attributes es ≡ gathered line f.rows
file_text header es f =
    let attrs = f.attributes in
    let tree = gathered (line_fields attrs) es in
    ap (λ x. x ++ tree_text attrs es) f.header_text
    ∙ ap (λ x. gathered line (map attribute_fields attrs) ++ x) (sym (tree_fields_text attrs es))
    ∙ sym (gathered_append line (map attribute_fields attrs) tree) ∙ ap (gathered line) (sym (rows_are f.rows attrs es f.good))

file_written : (room : ℕ) (header : Bytes) (es : List Element) (f : FileLines header es) → write_file room header es ≡ ending room es (gathered line f.rows)
file_written room header es f =
    header_taken room header es f es
    ∙ ap (λ x. behind room header (read_elements (suc (length attrs)) (only attrs) x)) (sym (append-nil es))
    ∙ ap (behind room header) (good_taken f.rows attrs es f.good [])
    ∙ go es (file_text header es f)
  where
    attrs : List Attribute
    attrs = f.attributes

    go : (xs : List Element) → header ++ tree_text attrs xs ≡ gathered line f.rows → behind room header (given (record { attributes = attrs; before = reverse xs })) ≡ ending room xs (gathered line f.rows)
    go [] t = refl
    go (x ∷ xs) t =
        let some : empty (reverse (x ∷ xs)) ≡ false = not_empty (reverse (x ∷ xs)) (omega (arith, length-reverse (x ∷ xs))) in
        rw (some, reverse-reverse (x ∷ xs), t)

ended_badly : (room : ℕ) (es : List Element) (t : Bytes) (n m : ℕ) → ending room es t ≡ refused n m → BadFile room (length es) (length t) n m
ended_badly room [] t n m h = let (a, b) = refused_refused h in inl (refl, sym a, sym b)
ended_badly room (e ∷ es) t n m h = go (test (ltb 16384 (length t))) (test (ltb room (length t)))
  where
    go : Test (ltb 16384 (length t)) → Test (ltb room (length t)) → BadFile room (length (e ∷ es)) (length t) n m
    go (passed x) y = let i : refused 1 0 ≡ refused n m = rw x at h in let (a, b) = refused_refused i in inr (inl (suc-le-suc zero-le, ltb-true 16384 (length t) x, sym a, sym b))
    go (failed x) (passed y) =
        let i : refused 11 (length t) ≡ refused n m = rw (x, y) at h in
        let (a, b) = refused_refused i in
        inr (inr (suc-le-suc zero-le, ltb-false 16384 (length t) x, ltb-true room (length t) y, sym a, sym b))
    go (failed x) (failed y) = let i : given t ≡ refused n m = rw (x, y) at h in refused-given (sym i)

badly_ended : (room : ℕ) (es : List Element) (t : Bytes) (n m : ℕ) → BadFile room (length es) (length t) n m → ending room es t ≡ refused n m
badly_ended room [] t n m (inl (e, a, b)) = rw (a, b)
badly_ended room [] t n m (inr (inl (l, s, a, b))) = absurd (omega arith)
badly_ended room [] t n m (inr (inr (l, s, r, a, b))) = absurd (omega arith)
badly_ended room (x ∷ es) t n m (inl (e, a, b)) = absurd (omega (arith, e))
badly_ended room (x ∷ es) t n m (inr (inl (l, s, a, b))) = rw (lt-ltb 16384 (length t) s, a, b)
badly_ended room (x ∷ es) t n m (inr (inr (l, s, r, a, b))) = rw (le-ltb 16384 (length t) s, lt-ltb room (length t) r, a, b)

-- Both ways
module _ (room : ℕ) (header : Bytes) (es : List Element) (n m : ℕ) where
  refused_so : All Shaped es → write_file room header es ≡ refused n m → RefusesToWrite room header es n m
  unfolding write_file
  refused_so shaped h = go (test (ltb 16384 (length header)))
    where
      after_elements : (x : Result Sofar) → Ended header es x → behind room header x ≡ refused n m → RefusesToWrite room header es n m
      after_elements (refused a b) (inl o) i = let (c, d) = refused_refused i in inr (inr (inl (subst (λ x. BadElement header es x m) c (subst (λ x. BadElement header es a x) d o))))
      after_elements (refused a b) (inr o) i = let (c, d) = refused_refused i in inr (inr (inr (inl (subst (λ x. BadObligation header es x m) c (subst (λ x. BadObligation header es a x) d o)))))
      after_elements (given z) o i = inr (inr (inr (inr (o, ended_badly room es (gathered line o.rows) n m (sym (file_written room header es o) ∙ h)))))

      after_lines : length header ≤ 16384 → (x : Result Sofar) → read_text header_tests header ≡ x → (x then λ s. behind room header (read_elements (suc (length s.attributes)) s es)) ≡ refused n m → RefusesToWrite room header es n m
      after_lines size (refused a b) e i =
          let (c, d) = refused_refused i in
          inr (inl (size, attribute_line_lem header n m (text_refused header_tests header_numbered HeaderSofar header_sofar nothing_header header n m (rw (← c, ← d) e))))
      after_lines size (given s) e i =
          let (rows, text, held) = text_given header_tests header_numbered HeaderSofar header_sofar nothing_header header s (text_read header_tests header_numbered header s e) in
          let are = header_rows_lem s rows held in
          let start : es ≡ reverse s.before ++ es = ap (λ x. reverse x.before ++ es) (sym held.alone) in
          let count : suc (length s.attributes) ≡ suc (length rows) = omega (arith, ap length are, length-map s.attributes attribute_fields) in
          let end = elements_end header size es (suc (length s.attributes)) s rows es held.sofar (text ∙ ap (gathered line) are) shaped start count in
          after_elements (read_elements (suc (length s.attributes)) s es) end i

      go : Test (ltb 16384 (length header)) → RefusesToWrite room header es n m
      go (passed e) =
          let i : refused 1 0 ≡ refused n m = rw e at h in
          let (a, b) = refused_refused i in
          inl (ltb-true 16384 (length header) e, sym a, sym b)
      go (failed e) = after_lines (ltb-false 16384 (length header) e) (read_text header_tests header) refl (rw e at h)

  so_refused : RefusesToWrite room header es n m → write_file room header es ≡ refused n m
  unfolding write_file
  so_refused (inl (l, a, b)) = rw (lt-ltb 16384 (length header) l, a, b)
  so_refused (inr (inl (l, b))) = rw (short_text header l, attribute_line_refused header n m b)
  so_refused (inr (inr (inl b))) = element_refused room header es n m b
  so_refused (inr (inr (inr (inl b)))) = header_taken room header (b.before ++ (with_obligations b.earlier b.bad ∷ [])) b.lines es ∙ ap (behind room header) (obligation_refused header es n m b)
  so_refused (inr (inr (inr (inr (f, b))))) = file_written room header es f ∙ badly_ended room es (gathered line f.rows) n m b

pub refuses_to_write : (room : ℕ) (header : Bytes) (es : List Element) (n m : ℕ) → All Shaped es → write_file room header es ≡ refused n m ↔ RefusesToWrite room header es n m
refuses_to_write room header es n m shaped = (refused_so room header es n m shaped, so_refused room header es n m)
