-- A file is refused, with two numbers, exactly as the table says.
use mathlib.Core.Path.{◌≡◌, refl, sym, ap, ◌∙◌, subst}
use mathlib.Core.Logic.{inl, inr, ◌↔◌}
use Prim.Native.Nat.{ℕ, ◌≤◌}
use mathlib.Core.Bool.{true}
use mathlib.Core.List.{List, [], ◌∷◌, reverse, reverse-reverse}
use lib.ListN.{length}
use lib.Dec.{ltb, lit≤}
use borrow.Author.Tests.{ltb-true, ltb-false, lt-ltb}
use Rattle.meaning.specs.Text.{Bytes, empty, cut, tab}
use Rattle.meaning.specs.Model.{Result, refused, given, ◌then◌}
use Rattle.meaning.specs.Reading.{Sofar, line_tests, read_text, finished, read}
use Rattle.meaning.specs.Claims.PolicyFile.{GoodLines}
use Rattle.meaning.specs.Claims.Refusals.{table_rows, Lowest, BadLine, Refuses}
use Rattle.laws.proofs.Types.{Element}
use Rattle.laws.proofs.Bools.{Test, passed, failed, test, contradiction}
use Rattle.laws.proofs.Reading.{refused-given, line_numbered, short_text, text_read, policy_of}
use Rattle.laws.proofs.FirstBad.{refused_refused, FirstBad, text_refused, text_given, bad_refused, rows_read}
use Rattle.laws.proofs.GoodSofar.{GoodSofar, nothing_sofar, line_sofar, good_lines}
use Rattle.laws.proofs.WellFormed.{rows_free, good_read}
use Rattle.laws.proofs.BadFields.{fails_row, row_fails}
use Rattle.laws.proofs.Table.{later_rows, reader_rows}

-- The first bad line
bad_line : (f : Bytes) (n m : ℕ) → FirstBad line_tests line_numbered GoodSofar line_sofar nothing_sofar f n m → BadLine f n m
bad_line f n m b =
    let s = b.sofar in
    let fs = cut tab b.bad in
    record {
      before = b.before;
      bad = b.bad;
      after = b.after;
      are = b.are;
      is_line = b.is_line;
      attributes = s.attributes;
      elements = reverse s.before;
      good = good_lines s b.before b.held;
      number = subst (λ x. Lowest n (table_rows (length b.after ≡ 0) s.attributes x fs)) (sym (reverse-reverse s.before))
          (fails_row line_tests line_numbered s fs (later_rows s fs) (reader_rows s b.held.good.attributes_good fs) n b.after b.fails);
      second = b.second;
    }

line_refused : (f : Bytes) (n m : ℕ) → BadLine f n m → read_text line_tests f ≡ refused n m
line_refused f n m b =
    let s : Sofar = record { attributes = b.attributes; before = reverse b.elements } in
    let fs = cut tab b.bad in
    let fails = row_fails line_tests line_numbered s fs (later_rows s fs) (reader_rows s b.good.attributes_good fs) (lit≤ tt, (lit≤ tt, (lit≤ tt, (lit≤ tt, (lit≤ tt, (lit≤ tt, (lit≤ tt, tt))))))) n b.after b.number in
    bad_refused line_tests line_numbered s b.before (good_read b.before b.attributes b.elements b.good) f b.bad b.after n b.are b.is_line fails ∙ ap (refused n) (sym b.second)

refused_so : (f : Bytes) (n m : ℕ) → read f ≡ refused n m → Refuses f n m
unfolding read
refused_so f n m h = go (test (ltb 16384 (length f)))
  where
    none_of : (es : List Element) → empty es ≡ true → reverse es ≡ []
    none_of [] e = refl
    none_of (x ∷ es) e = contradiction e refl

    after_lines : length f ≤ 16384 → (x : Result Sofar) → read_text line_tests f ≡ x → (x then finished) ≡ refused n m → Refuses f n m
    after_lines l (refused a b) e i =
        let (c, d) = refused_refused i in
        inr (inl (l, bad_line f n m (text_refused line_tests line_numbered GoodSofar line_sofar nothing_sofar f n m (rw (← c, ← d) e))))
    after_lines l (given z) e i = none (test (empty z.before))
      where
        none : Test (empty z.before) → Refuses f n m
        none (failed x) = let y : given (policy_of z) ≡ refused n m = rw x at i in refused-given (sym y)
        none (passed x) =
            let y : refused 9 0 ≡ refused n m = rw x at i in
            let (c, d) = refused_refused y in
            let (rows, text, good) = text_given line_tests line_numbered GoodSofar line_sofar nothing_sofar f z (text_read line_tests line_numbered f z e) in
            inr (inr (l, rows, z.attributes, text, subst (GoodLines rows z.attributes) (none_of z.before x) (good_lines z rows good), sym c, sym d))

    go : Test (ltb 16384 (length f)) → Refuses f n m
    go (passed e) =
        let i : refused 1 0 ≡ refused n m = rw e at h in
        let (a, b) = refused_refused i in
        inl (ltb-true 16384 (length f) e, sym a, sym b)
    go (failed e) = after_lines (ltb-false 16384 (length f) e) (read_text line_tests f) refl (rw e at h)

-- And the other way
so_refused : (f : Bytes) (n m : ℕ) → Refuses f n m → read f ≡ refused n m
unfolding read
so_refused f n m (inl (l, a, b)) = rw (lt-ltb 16384 (length f) l, a, b)
so_refused f n m (inr (inl (l, b))) = rw (short_text f l, line_refused f n m b)
so_refused f n m (inr (inr (l, rows, attrs, text, g, a, b))) =
    let s : Sofar = record { attributes = attrs; before = [] } in
    rw (short_text f l, rows_read line_tests line_numbered s rows (good_read rows attrs [] g) f text (rows_free rows attrs [] g), a, b)

pub refuses : (f : Bytes) (n m : ℕ) → read f ≡ refused n m ↔ Refuses f n m
refuses f n m = (refused_so f n m, so_refused f n m)
