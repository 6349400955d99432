-- The names of the elements whose bits are set.
use mathlib.Core.Path.{◌≡◌, ap, ◌∙◌}
use Prim.Native.Nat.{ℕ, suc, ◌+◌, ◌-◌, ◌≤◌, ◌<◌}
use native.Mathlib.Omega.{arith}
use mathlib.Core.Bool.{true, false}
use mathlib.Core.List.{List, [], ◌∷◌, ◌++◌, map}
use Rattle.meaning.specs.Text.{Bytes, bytes, keep, gathered, counting, comma}
use Rattle.meaning.specs.Deciding.{bit}
use Rattle.meaning.specs.Report.{or_dash}
use Rattle.layout.specs.declared.ElementPlaces.{ElementPlaces}
use Rattle.layout.specs.Places.{name_in}
use Rattle.laws.proofs.Rewritten.{gathered_map}
use Rattle.printing.proofs.Laws.{join_behind}
use Rattle.report_lines.specs.Lines.{names_of, later_names}
use Rattle.laws.proofs.Lists.{gathered_keep}

module _ (f : Bytes) (places : List ElementPlaces) (n w : ℕ) where
  -- the names of k elements from i on, if their bits are set
  unfoldable pub names_from : ℕ → ℕ → List Bytes
  names_from i k = map (name_in f places) (keep (bit w) (counting i k))

  later_from : (i : ℕ) → gathered (λ y. comma ∷ y) (names_from i (n - i)) ≡ later_names f places n w i
  unfolding later_names names_from
  later_from i = gathered_map (λ y. comma ∷ y) (name_in f places) (keep (bit w) (counting i (n - i))) ∙ gathered_keep (bit w) (λ j. comma ∷ name_in f places j) (counting i (n - i))

  -- no bit below i is set: the names are those from i on
  pub from_start : names_of f places n w ≡ names_from 0 (n - 0)
  unfolding names_of names_from
  from_start = let all : n - 0 ≡ n = omega arith in rw all

  module _ (i : ℕ) (l : i < n) (before : names_of f places n w ≡ names_from i (n - i)) where
    pub unset : bit w i ≡ false → names_of f places n w ≡ names_from (i + 1) (n - (i + 1))
    unfolding names_from
    unset e =
        let size : n - i ≡ suc (n - (i + 1)) = omega arith in
        let next : suc i ≡ i + 1 = omega arith in
        before ∙ rw (size, e, next)

    -- the first name, and the others
    pub first_name : bit w i ≡ true → or_dash (names_of f places n w) ≡ name_in f places i ++ later_names f places n w (i + 1)
    unfolding names_from
    first_name e =
        let size : n - i ≡ suc (n - (i + 1)) = omega arith in
        let next : suc i ≡ i + 1 = omega arith in
        let here : names_from i (n - i) ≡ name_in f places i ∷ names_from (i + 1) (n - (i + 1)) = rw (size, e, next) in
        ap or_dash (before ∙ here) ∙ join_behind comma (name_in f places i) (names_from (i + 1) (n - (i + 1))) ∙ ap (λ t. name_in f places i ++ t) (later_from (i + 1))

  -- no name
  pub no_name : (i : ℕ) → n ≤ i → names_of f places n w ≡ names_from i (n - i) → or_dash (names_of f places n w) ≡ bytes "-"
  unfolding names_from
  no_name i l before =
      let none : n - i ≡ 0 = omega arith in
      let here : names_from i (n - i) ≡ [] = rw none in
      ap or_dash (before ∙ here)
