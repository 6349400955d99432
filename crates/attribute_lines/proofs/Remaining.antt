-- What is left of a text, read line by line under any tests of a line from 3 on.
use mathlib.Core.Path.{◌≡◌, refl, sym, ap, ap₂, ◌∙◌}
use Prim.Native.Nat.{ℕ, zero, suc, ◌+◌, ◌≤◌, ◌<◌, zero-le}
use native.Mathlib.Numerals.{add-one}
use native.Mathlib.Omega.{arith}
use mathlib.Core.Bool.{cond}
use mathlib.Core.List.{List, [], ◌∷◌}
use lib.Dec.{eqb}
use lib.ListN.{length, get_or, drop, length-drop}
use borrow.Author.Tests.{eq-eqb, ne_eqb}
use Rattle.meaning.specs.Text.{Bytes, empty, front, last, cut, newline, tab}
use Rattle.meaning.specs.Model.{Result, refused, given, unless}
use Rattle.meaning.specs.Reading.{Line, line_of, Sofar, Tests, lowest, extended, read_lines}
use Rattle.meaning.specs.Claims.Texts.{All}
use Rattle.laws.proofs.Bools.{Test, passed, failed, test}
use Rattle.laws.proofs.Text.{Some, one_or_more, cut_some}
use Rattle.text.proofs.Pieces.{piece_rest, piece_more}
use Rattle.layout.specs.Places.{part}
use Rattle.attribute_lines.specs.Sofar.{refusal_by}

-- the lines from place `at` on that a newline ends
abbrev pub lines_at : Bytes → ℕ → List Bytes
lines_at f at = front (cut newline (drop at f))

-- the lines from place `at` on, the first of which has number n, behind s
abbrev pub lines_from : (Sofar → Line → Tests) → Bytes → ℕ → ℕ → Sofar → Result Sofar
lines_from tests f at n s = read_lines tests (last [] (cut newline (drop at f))) n s (lines_at f at)

-- Nothing behind the last newline, or a line that none ends
drop_empty : (f : Bytes) (at : ℕ) → at ≤ length f → empty (drop at f) ≡ eqb at (length f)
drop_empty f at l = go (drop at f) refl
  where
    go : (xs : Bytes) → drop at f ≡ xs → empty xs ≡ eqb at (length f)
    go [] e = sym (eq-eqb at (length f) (omega (arith, ap length e, length-drop at f)))
    go (x ∷ xs) e = sym (ne_eqb at (length f) (λ i. omega (arith, ap length e, length-drop at f)))

-- no line is left, or one and those behind it
module _ (f : Bytes) (at end : ℕ) (ends : end ≡ at + length (get_or (cut newline (drop at f)) 0 [])) where
  pub no_line : end ≡ length f → lines_at f at ≡ []
  no_line e = rw (piece_rest newline f at end ends e)

  pub first_line : end < length f → lines_at f at ≡ part f at end ∷ lines_at f (end + 1)
  first_line l = rw (piece_more newline f at end ends l) (go (cut_some newline (drop (end + 1) f)))
    where
      go : {ps : List Bytes} → Some ps → front (part f at end ∷ ps) ≡ part f at end ∷ front ps
      go (one_or_more p ps) = refl

  last_line : end < length f → last [] (cut newline (drop at f)) ≡ last [] (cut newline (drop (end + 1) f))
  last_line l = rw (piece_more newline f at end ends l) (go (cut_some newline (drop (end + 1) f)))
    where
      go : {ps : List Bytes} → Some ps → last [] (part f at end ∷ ps) ≡ last [] ps
      go (one_or_more p ps) = refl

module _ (tests : Sofar → Line → Tests) (f : Bytes) (at n : ℕ) (s : Sofar) (end : ℕ) (ends : end ≡ at + length (get_or (cut newline (drop at f)) 0 [])) where
  pub none_left : at ≤ length f → end ≡ length f → lines_from tests f at n s ≡ cond (eqb at end) (given s) (refused 2 n)
  none_left l e = rw (piece_rest newline f at end ends e, drop_empty f at l, e)

  -- one line, and what is behind it
  abbrev fields : List Bytes
  fields = cut tab (part f at end)

  one_line : end < length f → lines_from tests f at n s ≡ unless (refusal_by tests s fields) n (lines_from tests f (end + 1) (suc n) (extended s (line_of fields)))
  unfolding refusal_by
  one_line l = ap₂ (λ (rest : Bytes) (lines : List Bytes). read_lines tests rest n s lines) (last_line f at end ends l) (first_line f at end ends l)

  pub one_refused : end < length f → (refusal_by tests s fields ≡ 0 → ⊥) → lines_from tests f at n s ≡ refused (refusal_by tests s fields) n
  one_refused l h = one_line l ∙ go (refusal_by tests s fields) h _
    where
      go : (k : ℕ) → (k ≡ 0 → ⊥) → (r : Result Sofar) → unless k n r ≡ refused k n
      go zero h r = absurd (h refl)
      go (suc k) h r = refl

  pub one_read : end < length f → refusal_by tests s fields ≡ 0 → lines_from tests f at n s ≡ lines_from tests f (end + 1) (n + 1) (extended s (line_of fields))
  one_read l z = one_line l ∙ rw (z, add-one n)

-- The lowest of some tests is at most their largest number
pub lowest_within : (most : ℕ) (ts : Tests) → All (λ t. t.0 ≤ most) ts → lowest ts ≤ most
lowest_within most [] a = zero-le
lowest_within most (t ∷ ts) a = go (test t.1) (lowest_within most ts a.1)
  where
    go : Test t.1 → lowest ts ≤ most → lowest (t ∷ ts) ≤ most
    go (passed e) later = rw e a.0
    go (failed e) later = rw e later
