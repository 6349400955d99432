-- Where the lines behind a file's attribute lines start, and what they are.
use mathlib.Core.Path.{◌≡◌, refl, sym, ap, ◌∙◌, subst}
use mathlib.Core.List.{List, [], ◌∷◌}
use Prim.Native.Nat.{ℕ, zero, suc, ◌+◌, ◌-◌, ◌≤◌, ◌<◌}
use native.Mathlib.Nat.{add-zero}
use native.Mathlib.Numerals.{add-one}
use native.Mathlib.Omega.{arith}
use lib.ListN.{length, drop, get_or, length-drop, length-map}
use lib.Dec.{ltb}
use lib.Seq.{drop-drop}
use borrow.Author.Tests.{ltb-true, ltb-false}
use Rattle.meaning.specs.Text.{Bytes, gathered, cut, join, newline, tab}
use Rattle.meaning.specs.Model.{Policy, given}
use Rattle.meaning.specs.Reading.{read}
use Rattle.meaning.specs.Trimming.{file_lines}
use Rattle.meaning.specs.Claims.Texts.{All}
use Rattle.laws.proofs.Types.{Element}
use Rattle.laws.proofs.Bounds.{bounded}
use Rattle.laws.proofs.Rewritten.{line_fields}
use Rattle.laws.proofs.Bools.{Test, passed, failed, test}
use Rattle.laws.proofs.Reading.{accepted}
use Rattle.laws.proofs.JoinedLines.{rows_behind, tree_rows, other_lines_lem, lines_ended}
use Rattle.text.specs.Ended.{Ended}
use Rattle.text.proofs.NextLine.{no_line, next_line}
use Rattle.text.proofs.Pieces.{first_within}
use Rattle.table.specs.declared.Row.{Row}
use Rattle.layout.specs.declared.Attributes.{Attributes}
use Rattle.layout.specs.declared.ElementPlaces.{ElementPlaces}
use Rattle.layout.specs.Places.{start_of, line_start, lines_to}
use Rattle.layout.proofs.Laws.{attributes_length}
use Rattle.reader.specs.declared.Policy.{Policy as PolicyRead}
use Rattle.reader.specs.Told.{ReadPolicy}
use Rattle.joined_text.specs.Lines.{Fits, Joinable}
use Rattle.joining.specs.Held.{FileHeld}

-- from the start of line k on stand the lines from k on
pub record From (f : Bytes) (k : ℕ) : Type 0 where
  pub inside : line_start f k ≤ length f
  pub ended : Ended (drop (line_start f k) f)
  pub are : file_lines (drop (line_start f k) f) ≡ drop k (file_lines f)

not_last : (s : Bytes) (at : ℕ) → 1 ≤ length (file_lines (drop at s)) → at < length s
not_last s at h = go (test (ltb at (length s)))
  where
    go : Test (ltb at (length s)) → at < length s
    go (passed e) = ltb-true at (length s) e
    go (failed e) = absurd (omega (arith, h, ap length (no_line s at (ltb-false at (length s) e))))

line_starts : (f : Bytes) → Ended f → (k : ℕ) → k ≤ length (file_lines f) → From f k
unfolding line_start
line_starts f ended zero l = record { inside = omega arith; ended = ended; are = refl }
line_starts f ended (suc k) l = go (line_starts f ended k (omega arith))
  where
    go : From f k → From f (suc k)
    go before =
        let at = line_start f k in
        let piece = get_or (cut newline (drop at f)) 0 [] in
        let left : length (file_lines (drop at f)) ≡ length (file_lines f) - k = ap length before.are ∙ length-drop k (file_lines f) in
        let next = next_line f at (at + length piece) refl (omega (arith, first_within newline (drop at f), length-drop at f, before.inside)) before.ended (not_last f at (omega (arith, left))) in
        record {
          inside = omega (arith, next.newline_there);
          ended = next.rest_ended;
          are = ap (drop 1) (sym next.comes ∙ before.are) ∙ drop-drop 1 k (file_lines f) ∙ ap (λ n. drop n (file_lines f)) (add-one k);
        }

-- an accepted file has a line for each attribute, and more
attribute_lines_lem : (f : Bytes) (p : Policy) → read f ≡ given p → length p.attributes ≤ length (file_lines f)
attribute_lines_lem f p h = omega (arith, length-drop (length p.attributes) (file_lines f), ap length (rows_behind f p h), length-map (tree_rows p) (join tab), some_row p.elements (bounded f p h).some_element)
  where
    some_row : (es : List Element) → 1 ≤ length es → 1 ≤ length (gathered (line_fields p.attributes) es)
    some_row [] l = absurd (omega arith)
    some_row (e ∷ es) l = omega arith

-- what reading a file gives is enough to know where they start
pub file_held : (f : List ℕ) (table : List Row) (places : List ElementPlaces) (r : PolicyRead) (p : Policy) → read f ≡ given p → ReadPolicy f table places r p → FileHeld f r.attributes (start_of places 0)
unfolding lines_to
file_held f table places r p h holds = record {
  policy = p;
  is_read = h;
  attributes = holds.attributes;
  standing = holds.spaced.standing;
  starts = holds.lined.starts 0 holds.some ∙ ap (line_start f) (add-zero r.attributes.len);
}

-- and what is known of a file that was read is enough to join it
pub joinable : (f : Bytes) (a : Attributes) (from : ℕ) → FileHeld f a from → Joinable f a from
joinable f a from held =
    let p = held.policy in
    let count : length p.attributes ≡ a.len = ap length held.attributes ∙ attributes_length f a in
    let lines_from = line_starts f (lines_ended f p held.is_read) a.len (omega (arith, count, attribute_lines_lem f p held.is_read)) in
    let short = (accepted f p held.is_read).size in
    let behind : file_lines (drop from f) ≡ drop a.len (file_lines f) = ap (λ n. file_lines (drop n f)) held.starts ∙ lines_from.are in
    record {
      headed = record { short = short; standing = held.standing };
      behind = record {
        inside = omega (arith, held.starts, lines_from.inside);
        short = short;
        ended = subst (λ n. Ended (drop n f)) (sym held.starts) lines_from.ended;
        fitting = subst (All Fits) (ap (λ n. drop n (file_lines f)) count ∙ sym behind) (other_lines_lem f p held.is_read);
      };
      other_lines = behind;
    }
