-- Lines left before an element, counted by flags.
use mathlib.Core.Path.{◌≡◌, refl, sym, ap, ◌∙◌}
use Prim.Native.Nat.{ℕ, zero, suc, ◌+◌, ◌-◌, ◌≤◌, ◌<◌}
use native.Mathlib.Nat.{add-zero, zero-add}
use native.Mathlib.Omega.{arith}
use mathlib.Core.List.{List, [], ◌∷◌, map}
use lib.ListN.{length, get_or, take}
use borrow.Author.Tests.{eq-eqb, ne_eqb}
use Rattle.laws.proofs.Types.{Element}
use Rattle.laws.proofs.Bools.{Test, passed, failed, test}
use Rattle.laws.proofs.Places.{lines_in}
use Rattle.table.specs.declared.Row.{Row}
use Rattle.layout.specs.declared.ElementPlaces.{ElementPlaces}
use Rattle.layout.specs.Places.{obligation_count}
use Rattle.table.specs.declared.Shape.{Shape}
use Rattle.outcomes.specs.Decided.{none_struck}
use Rattle.trimmed_text.specs.Flags.{is_left, left_from, line_count}
use Rattle.trimmed_text.specs.Held.{PolicyHeld}
use Rattle.trimmed_text.proofs.Left.{left_count}
use Rattle.trimmed_text.proofs.Steps.{line_at}
use Rattle.trimmed_text.proofs.Placed.{lines_here}
use Rattle.trimmed_text.proofs.Held.{sizes}
use Rattle.accepting.specs.Judged.{lines_from}

-- one element more
module _ (places : List ElementPlaces) (struck : List ℕ) (i j : ℕ) (l : j < i) where
  one_less : i - j ≡ suc (i - (j + 1))
  one_less = omega arith

  pub line_struck : (get_or struck j 0 ≡ 0 → ⊥) → lines_from places struck j (i - j) ≡ lines_from places struck (j + 1) (i - (j + 1))
  unfolding lines_from
  line_struck gone = rw (one_less, ne_eqb (get_or struck j 0) 0 gone) (zero-add (lines_from places struck (j + 1) (i - (j + 1))))

  pub lines_left_lem : get_or struck j 0 ≡ 0 → lines_from places struck j (i - j) ≡ suc (obligation_count places j) + lines_from places struck (j + 1) (i - (j + 1))
  unfolding lines_from
  lines_left_lem live = rw (one_less, eq-eqb (get_or struck j 0) 0 live)

pub no_more : (places : List ElementPlaces) (struck : List ℕ) (i j : ℕ) → j ≤ i → i ≤ j → lines_from places struck j (i - j) ≡ 0
unfolding lines_from
no_more places struck i j l m = let none : i - j ≡ 0 = omega arith in rw none

-- They are those of the elements left
lines_kept : (places : List ElementPlaces) (struck : List ℕ) (i : ℕ) (es : List Element) (m : ℕ) → m ≤ length es → ((j : ℕ) → j < length es → get_or (map line_count es) j 0 ≡ suc (obligation_count places (i + j)))
    → lines_in (take (left_count struck i m) (left_from struck i es)) ≡ lines_from places struck i m
unfolding lines_from left_count left_from
lines_kept places struck i es zero l each = refl
lines_kept places struck i [] (suc m) l each = absurd (omega arith)
lines_kept places struck i (e ∷ es) (suc m) l each =
    go (test (is_left struck i)) (lines_kept places struck (i + 1) es m (omega arith) (λ j b. each (suc j) (omega arith) ∙ ap (λ k. suc (obligation_count places k)) (moved j)))
  where
    moved : (j : ℕ) → i + suc j ≡ i + 1 + j
    moved j = omega arith

    here : line_count e ≡ suc (obligation_count places i)
    here = each 0 (omega arith) ∙ ap (λ j. suc (obligation_count places j)) (add-zero i)

    go : Test (is_left struck i) → lines_in (take (left_count struck (i + 1) m) (left_from struck (i + 1) es)) ≡ lines_from places struck (i + 1) m
        → lines_in (take (left_count struck i (suc m)) (left_from struck i (e ∷ es))) ≡ lines_from places struck i (suc m)
    go (passed x) later = rw x (omega (arith, here, later))
    go (failed x) later = rw x (later ∙ sym (zero-add (lines_from places struck (i + 1) m)))

-- and so the line of an element is told
module _ (f : List ℕ) (table : List Row) (places : List ElementPlaces) (s : Shape) (held : PolicyHeld f table places s) (struck : List ℕ) where
  pub line_is : (i : ℕ) → i ≤ s.n → line_at held.policy struck i ≡ s.len + lines_from places struck 0 i
  line_is i l =
      let p = held.policy in
      let size = sizes f table places s held in
      let each : (j : ℕ) → j < length p.elements → get_or (map line_count p.elements) j 0 ≡ suc (obligation_count places (0 + j)) =
      λ j b. lines_here f p held.is_read table places none_struck (length p.attributes) s.n refl held.elements size held.lined j (omega (arith, size)) ∙ ap (λ k. suc (obligation_count places k)) (sym (zero-add j)) in
      omega (arith, held.len_is, lines_kept places struck 0 p.elements i (omega (arith, size)) each)
