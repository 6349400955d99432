-- The lines, field by field.
use mathlib.Core.Path.{◌≡◌}
use mathlib.Core.Logic.{◌≢◌}
use Prim.Native.Nat.{ℕ, ◌+◌, ◌/◌, ◌≤◌, ◌<◌}
use native.Mathlib.Omega.{arith}
use mathlib.Core.List.{List, []}
use lib.ListN.{get_or}
use borrow.Author.Tests.{ne_eqb, lt-ltb, le-ltb}
use Rattle.std.specs.Prelude.{Option, None, Some}
use Rattle.meaning.specs.declared.Decision.{Decision}
use Rattle.meaning.specs.Text.{Bytes, bytes, decimal}
use Rattle.meaning.specs.Model.{decision_text}
use Rattle.meaning.specs.Report.{or_dash}
use Rattle.layout.specs.declared.ElementPlaces.{ElementPlaces}
use Rattle.layout.specs.Places.{name_in}
use Rattle.printing.specs.declared.Sink.{Sink}
use Rattle.printing.specs.Puts.{Puts}
use Rattle.printing.proofs.Laws.{then, nothing, line_next, same_text}
use Rattle.printing.proofs.LineFields.{field, last, three, five}
use Rattle.report_lines.specs.declared.segment_lines.Segment.{Segment}
use Rattle.report_lines.specs.declared.conflict_lines.Conflict.{Conflict}
use Rattle.report_lines.specs.Lines.{names_of, segment_row, segment_line, conflict_row, struck_line, kept_line}

module _ (f : Bytes) (places : List ElementPlaces) {a : Sink} where
  -- `G`
  pub segment : (n : ℕ) (s : Segment) {b c d e g : Sink} (size : ℕ) → size ≡ s.size → s.first < 4096 → size < 65536
      → Puts a (field (bytes "G")) b
      → Puts b (field (decimal s.first)) c × (c.at ≤ b.at + s.first / 10 + 2)
      → Puts c (field (decimal size)) d × (d.at ≤ c.at + size / 10 + 2)
      → Puts d (field (decision_text s.decision)) e × (e.at ≤ d.at + 15)
      → Puts e (last (or_dash (names_of f places n s.word))) g × (g.at ≤ e.at + 1200)
      → Puts a (segment_row f places n s) g × (g.at ≤ a.at + 10000)
  segment n s {g = g} size is few small one (two, i) (three, j) (four, k) (five-th, l) = (
    rw (← is) (same_text (five (bytes "G") (decimal s.first) (decimal size) (decision_text s.decision) (or_dash (names_of f places n s.word))) (then one (then two (then three (then four five-th))))),
    omega (arith, one.wrote.moved, i, j, k, l),
  )

  -- `C`
  pub conflict : (c : Conflict) {b d e g h : Sink} → c.request < 4096
      → Puts a (field (bytes "C")) b
      → Puts b (field (name_in f places c.parent)) d × (d.at ≤ b.at + 17)
      → Puts d (field (name_in f places c.earlier)) e × (e.at ≤ d.at + 17)
      → Puts e (field (name_in f places c.later)) g × (g.at ≤ e.at + 17)
      → Puts g (last (decimal c.request)) h × (h.at ≤ g.at + c.request / 10 + 2)
      → Puts a (conflict_row f places c) h × (h.at ≤ a.at + 500)
  conflict c {h = h} few one (two, i) (three, j) (four, k) (five-th, l) = (
    same_text (five (bytes "C") (name_in f places c.parent) (name_in f places c.earlier) (name_in f places c.later) (decimal c.request)) (then one (then two (then three (then four five-th)))),
    omega (arith, one.wrote.moved, i, j, k, l),
  )

  -- `X`
  pub struck_line_lem : {b c : Sink} (i : ℕ) → Puts a (field (bytes "X")) b → Puts b (last (name_in f places i)) c × (c.at ≤ b.at + 17) → Puts a (struck_line f places i) c × (c.at ≤ a.at + 500)
  unfolding struck_line
  struck_line_lem {c = c} i one (two, l) = (same_text (line_next (bytes "X") (name_in f places i) []) (then one two), omega (arith, one.wrote.moved, l))

  -- `K`
  pub none_kept : (shown : List (Option ℕ)) (space i : ℕ) → get_or shown i None ≡ None → Puts a (kept_line f places shown space i) a × (a.at ≤ a.at + 500)
  unfolding kept_line
  none_kept shown space i is = (rw is (nothing a), omega arith)

  module _ (shown : List (Option ℕ)) (space i m : ℕ) (is : get_or shown i None ≡ Some m) where
    pub not_kept : space ≤ m → Puts a (kept_line f places shown space i) a × (a.at ≤ a.at + 500)
    unfolding kept_line
    not_kept e = (rw (is, le-ltb m space e) (nothing a), omega arith)

    pub kept : {b c d : Sink} → m < space → space ≤ 4096
        → Puts a (field (bytes "K")) b
        → Puts b (field (name_in f places i)) c × (c.at ≤ b.at + 17)
        → Puts c (last (decimal m)) d × (d.at ≤ c.at + m / 10 + 2)
        → Puts a (kept_line f places shown space i) d × (d.at ≤ a.at + 500)
    unfolding kept_line
    kept {d = d} found few one (two, g) (third, l) = (
      rw (is, lt-ltb m space found) (same_text (three (bytes "K") (name_in f places i) (decimal m)) (then one (then two third))),
      omega (arith, one.wrote.moved, g, l),
    )

-- a request with a size has a segment line
module _ (f : Bytes) (places : List ElementPlaces) (n : ℕ) (words sizes : List ℕ) (decided : List Decision) (m : ℕ) where
  pub no_segment : get_or sizes m 0 ≡ 0 → segment_line f places n words sizes decided m ≡ []
  unfolding segment_line
  no_segment e = rw e

  pub is_segment : {a b : Sink} → get_or sizes m 0 ≢ 0 → Puts a (segment_row f places n (record { first = m; size = get_or sizes m 0; decision = get_or decided m Decision.Permit; word = get_or words m 0 })) b × (b.at ≤ a.at + 10000) → Puts a (segment_line f places n words sizes decided m) b × (b.at ≤ a.at + 10000)
  unfolding segment_line
  is_segment e p = rw (ne_eqb (get_or sizes m 0) 0 e) p
