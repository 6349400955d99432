-- Attribute lines, read one by one: what is left of them, read behind what was read so far.
use Rattle.std.specs.Prelude.{Ok, Err}
use Prim.Native.Nat.{ℕ, ◌+◌, ◌≤◌, ◌<◌, zero-le}
use mathlib.Core.Path.{◌≡◌, refl, sym, ap, ◌∙◌, subst⁻¹}
use native.Mathlib.Omega.{arith}
use mathlib.Core.Bool.{cond}
use mathlib.Core.List.{List, [], ◌∷◌}
use lib.Dec.{eqb, lit≤}
use lib.ListN.{length, get_or, drop, length-replicate}
use borrow.Author.Tests.{le-ltb, lt-ltb, eq-eqb, ne_eqb}
use Rattle.meaning.specs.Text.{Bytes, cut, newline, tab}
use Rattle.meaning.specs.Model.{Result, refused, given, ◌then◌}
use Rattle.meaning.specs.Reading.{Line, attribute_line, tree_line, obligation_line, other_line, line_of, Sofar, wrong_fields, read_text, short}
use Rattle.meaning.specs.Writing.{header_tests}
use Rattle.meaning.specs.Claims.Texts.{All}
use Rattle.refusals.specs.declared.Refusal.{Refusal}
use Rattle.refusals.specs.declared.Refusal.TheVariants.{LongFile, BadLine}
use Rattle.refusals.specs.Numbers.{number_of}
use Rattle.refusals.proofs.Numbers.{not_zero}
use Rattle.table.specs.declared.Row.{Row}
use Rattle.table.specs.Rows.{Rows, no_row}
use Rattle.layout.specs.declared.ElementPlaces.{ElementPlaces}
use Rattle.layout.specs.Places.{no_places, part, Clear}
use Rattle.layout.proofs.Slots.{none_clear}
use Rattle.attribute_lines.specs.declared.State.{State}
use Rattle.attribute_lines.specs.Sofar.{refusal_by}
use Rattle.attribute_lines.specs.Steps.{beginning}
use Rattle.attribute_lines.proofs.Beginning.{beginning_ready}
use Rattle.attribute_lines.proofs.Remaining.{lines_from, none_left, one_refused, one_read, lowest_within}
use Rattle.header.specs.Among.{no_rows, blank, sofar_at, Among, Past}
use Rattle.header.specs.Told.{HeaderAs}
use Rattle.header.proofs.HeaderLines.{among_next}

-- what the writer reads in attribute lines
abbrev pub read_header : Bytes → Result Sofar
read_header h = short h then (read_text header_tests)

rows_room : Rows no_rows 64
unfolding no_rows
rows_room = omega (arith, length-replicate {A = Row} 64 no_row)

blank_room : 64 ≤ length blank
unfolding blank
blank_room = omega (arith, length-replicate {A = ElementPlaces} 64 no_places)

blank_clear : Clear blank 0
unfolding blank
blank_clear = none_clear 64

-- 1: they are too long
pub too_long : (h : Bytes) → 16384 < length h → HeaderAs h (Err (record { why = LongFile; second = 0 })) (read_header h)
too_long h l = rw (lt-ltb 16384 (length h) l) (record { is = refl; low = lit≤ tt; small = zero-le })

-- What the loop keeps: they read as the lines that remain behind what was read so far
pub record Keeps (h : Bytes) (st : State) : Type 0 where
  pub among : Among h st
  pub size : length h ≤ 16384
  pub reads : read_header h ≡ lines_from header_tests h st.at st.line (sofar_at h st)

pub keeps_first : (h : Bytes) {st : State} → length h ≤ 16384 → st ≡ beginning → Keeps h st
keeps_first h l is =
    let (ready, none) = beginning_ready h no_rows blank rows_room blank_room blank_clear in
    subst⁻¹ (Keeps h) is (record { among = record { ready = ready; no_element = ap (λ s. s.before) none }; size = l; reads = rw (le-ltb 16384 (length h) l, none) })

-- a line's refusal is 14 at most
refusal_low : (s : Sofar) (fs : List Bytes) → refusal_by header_tests s fs ≤ 14
unfolding refusal_by
refusal_low s fs = lowest_within 14 ((2, wrong_fields s fs (line_of fs)) ∷ header_tests s (line_of fs)) (lit≤ tt, by_line (line_of fs))
  where
    by_line : (l : Line) → All (λ t. t.0 ≤ 14) (header_tests s l)
    by_line (attribute_line a) = (lit≤ tt, (lit≤ tt, (lit≤ tt, (lit≤ tt, tt))))
    by_line (tree_line k d n w ts) = (lit≤ tt, (lit≤ tt, tt))
    by_line (obligation_line n w) = (lit≤ tt, (lit≤ tt, tt))
    by_line other_line = tt

module _ (h : Bytes) (st : State) (keeps : Keeps h st) (end : ℕ) (ends : end ≡ st.at + length (get_or (cut newline (drop st.at h)) 0 [])) where
  pub few_lines : st.line ≤ 16385
  few_lines = omega (arith, keeps.size, keeps.among.ready.in_file.inside, keeps.among.ready.in_file.lines_passed)

  -- what is told of a refusal
  told : (why : Refusal) → read_header h ≡ refused (number_of why) st.line → number_of why ≤ 14 → HeaderAs h (Err (record { why = why; second = st.line })) (read_header h)
  told why e low = subst⁻¹ (HeaderAs h (Err (record { why = why; second = st.line }))) e (record { is = refl; low = low; small = few_lines })

  module _ (whole : end ≡ length h) where
    ended : read_header h ≡ cond (eqb st.at end) (given (sofar_at h st)) (refused 2 st.line)
    ended = keeps.reads ∙ none_left header_tests h st.at st.line (sofar_at h st) end ends keeps.among.ready.in_file.inside whole

    -- bytes behind the last newline
    pub left_over : (st.at ≡ end → ⊥) → HeaderAs h (Err (record { why = BadLine; second = st.line })) (read_header h)
    left_over more = told BadLine (ended ∙ rw (ne_eqb st.at end more)) (lit≤ tt)

    -- the attributes
    pub all_read : st.at ≡ end → HeaderAs h (Ok st.attributes) (read_header h)
    all_read none =
        let reads : read_header h ≡ given (sofar_at h st) = ended ∙ rw (eq-eqb st.at end none) in
        subst⁻¹ (HeaderAs h (Ok st.attributes)) reads (record {
          attributes = refl;
          places_are = keeps.among.ready.places_are;
          no_element = keeps.among.no_element;
          spaced = keeps.among.ready.in_file.attributes;
          size = keeps.size;
        })

  -- a line that is refused, and one that is not
  module _ (inside : end < length h) where
    pub refused_here : (why : Refusal) {after : State} → Past h st end after (Err why) → HeaderAs h (Err (record { why = why; second = st.line })) (read_header h)
    refused_here why past =
        let fs = cut tab (part h st.at end) in
        let reads = keeps.reads ∙ one_refused header_tests h st.at st.line (sofar_at h st) end ends inside (λ z. not_zero why (past.refusal ∙ z)) ∙ ap (λ k. refused k st.line) (sym past.refusal) in
        told why reads (omega (arith, past.refusal, refusal_low (sofar_at h st) fs))

    pub keeps_next : (next : State) → Past h st end next (Ok tt) → Keeps h next
    keeps_next next past =
        let n = past.next in
        let none = sym past.refusal in
        record {
          among = among_next h st end next keeps.among none n;
          size = keeps.size;
          reads = keeps.reads ∙ one_read header_tests h st.at st.line (sofar_at h st) end ends inside none ∙ sym (rw (n.at_next, n.line_next, ap (λ x. x.sofar) n.laid));
        }
