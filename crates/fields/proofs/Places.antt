-- Which fields are left at a place: all at the start, one fewer at the next place.
use mathlib.Core.Path.{◌≡◌, refl, sym, ap, ◌∙◌}
use mathlib.Core.List.{List, []}
use mathlib.Core.Logic.{⊎_elim}
use Prim.Native.Nat.{ℕ, ◌+◌, ◌≤◌, ◌<◌}
use native.Mathlib.Nat.{add-zero, eq-or-lt_of_le}
use native.Mathlib.Omega.{arith}
use lib.Dec.{ltb}
use lib.ListN.{length, get_or, drop, length-drop}
use lib.Seq.{drop-drop, get_or-drop}
use borrow.Author.Tests.{lt-ltb, le-ltb, ltb-false}
use Rattle.meaning.specs.Text.{Bytes, cut, tab}
use Rattle.laws.proofs.Bools.{Test, passed, failed, test}
use Rattle.text.proofs.Pieces.{first_length, first_within, piece_last, piece_more}
use Rattle.fields.specs.Places.{fields_from, field_at, place_after}

module _ (line : Bytes) where
  none_left : (at : ℕ) → length line < at → fields_from line at ≡ []
  none_left at h = rw (lt-ltb (length line) at h)

  some_left : (at : ℕ) → at ≤ length line → fields_from line at ≡ cut tab (drop at line)
  some_left at h = rw (le-ltb (length line) at h)

  one_fewer : (at : ℕ) → fields_from line (place_after line at) ≡ drop 1 (fields_from line at)
  one_fewer at = go (test (ltb (length line) at))
    where
      end : ℕ
      end = at + first_length tab (drop at line)

      -- past the end, at the last field, at a field that a tab ends
      go : Test (ltb (length line) at) → fields_from line (place_after line at) ≡ drop 1 (fields_from line at)
      go (passed over) = simp over
      go (failed within) = simp (
        within,
        ⊎_elim
            (λ (l : end ≡ length line). none_left (end + 1) (omega (arith, l)) ∙ ap (drop 1) (sym (piece_last tab line at end refl l)))
            (λ (l : end < length line). some_left (end + 1) (omega (arith, l)) ∙ ap (drop 1) (sym (piece_more tab line at end refl l)))
            (eq-or-lt_of_le (omega (arith, ltb-false (length line) at within, first_within tab (drop at line), length-drop at line))),
      )

-- a reader at the place p has passed i fields of the line
abbrev pub Passed : Bytes → ℕ → ℕ → Type 0
Passed line i p = fields_from line p ≡ drop i (cut tab line)

pub none_passed : (line : Bytes) → Passed line 0 0
none_passed line = some_left line 0 (omega arith)

pub one_passed : (line : Bytes) (i p : ℕ) → Passed line i p → Passed line (i + 1) (place_after line p)
one_passed line i p h = one_fewer line p ∙ ap (drop 1) h ∙ drop-drop 1 i (cut tab line)

pub field_here : (line : Bytes) (i p : ℕ) → Passed line i p → field_at line p ≡ get_or (cut tab line) i []
field_here line i p h = ap (λ (fs : List Bytes). get_or fs 0 []) h ∙ get_or-drop i (cut tab line) 0 [] ∙ ap (λ (j : ℕ). get_or (cut tab line) j []) (add-zero i)
