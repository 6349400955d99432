-- Where field n of a line starts.
use mathlib.Core.Path.{◌≡◌, refl, sym, ap, ◌∙◌}
use mathlib.Core.List.{[]}
use mathlib.Core.Logic.{⊎_elim}
use Prim.Native.Nat.{ℕ, ◌+◌, ◌-◌, ◌≤◌, ◌<◌, zero-le}
use native.Mathlib.Nat.{add-zero, eq-or-lt_of_le}
use native.Mathlib.Omega.{arith}
use lib.ListN.{length, get_or, take, drop, length-drop}
use lib.Seq.{drop-drop, get_or-drop}
use Rattle.meaning.specs.Text.{Bytes, cut, tab}
use Rattle.text.proofs.Pieces.{EndsAt, piece_first, piece_last, piece_more}

pub record Starts (line : Bytes) (n at : ℕ) : Type 0 where
  pub inside : at ≤ length line
  pub fields : drop n (cut tab line) ≡ cut tab (drop at line)

pub first_starts : (line : Bytes) → Starts line 0 0
first_starts line = record { inside = zero-le; fields = refl }

-- The field that starts at `at` ends at e
module _ {line : Bytes} {n at e : ℕ} (s : Starts line n at) (h : EndsAt tab line at e) where
  here : get_or (cut tab (drop at line)) 0 [] ≡ get_or (cut tab line) n []
  here = sym (ap (λ fs. get_or fs 0 []) s.fields) ∙ rw (get_or-drop, add-zero)

  pub field_end_is : e ≡ at + length (get_or (cut tab line) n [])
  field_end_is = h.value ∙ ap (λ field. at + length field) here

  pub field_text : take (e - at) (drop at line) ≡ get_or (cut tab line) n []
  field_text = sym (piece_first tab line at e h.value h.within.1) ∙ here

  last_field : e ≡ length line → length (cut tab line) ≤ n + 1
  last_field l = omega (arith, length-drop n (cut tab line), ap length (s.fields ∙ piece_last tab line at e h.value l))

  -- another one is behind it
  pub another_field : n + 1 < length (cut tab line) → e < length line
  another_field m = ⊎_elim
      (λ (l : e ≡ length line). absurd (omega (arith, last_field l)))
      (λ (l : e < length line). l)
      (eq-or-lt_of_le h.within.1)

  pub next_starts : n + 1 < length (cut tab line) → Starts line (n + 1) (e + 1)
  next_starts m =
      let l = another_field m in
      record { inside = omega (arith, l); fields = sym (drop-drop 1 n (cut tab line)) ∙ ap (drop 1) (s.fields ∙ piece_more tab line at e h.value l) }
