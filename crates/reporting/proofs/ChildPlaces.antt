-- The places whose parent an element is: by the parents found in the table, those of the policy that was read into it.
use mathlib.Core.Path.{◌≡◌, refl, sym, ap, ◌∙◌}
use Prim.Native.Nat.{ℕ, suc, ◌<◌}
use native.Mathlib.Omega.{arith}
use mathlib.Core.List.{List, reverse}
use mathlib.Core.Option.{Option, none, some}
use lib.Dec.{eqb}
use lib.ListN.{get_or}
use Rattle.meaning.specs.Text.{Bytes, keep, counting}
use Rattle.meaning.specs.Model.{Policy}
use Rattle.meaning.specs.Segments.{depth_at, parent_of, is_place, children_of}
use Rattle.laws.proofs.Search.{counting_only}
use Rattle.laws.proofs.Lists.{keep_alike}
use Rattle.table.specs.declared.Row.{Row}
use Rattle.table.specs.Rows.{depth_of, element_at}
use Rattle.table.specs.Tree.{parent_of as parent_in}
use Rattle.std.specs.Prelude.{Option as Found, Some, None}
use Rattle.std.specs.Option.{option_eq}
use Rattle.laws.specs.Found.{found}
use Rattle.layout.specs.declared.ElementPlaces.{ElementPlaces}
use Rattle.layout.specs.Places.{element_in, elements_to}
use Rattle.trimmed_text.proofs.Table.{count_is, element_at_lem}
use Rattle.trimmed_text.proofs.Tabled.{last_alike}
use Rattle.rows.proofs.Making.{eqb_swap}
use Rattle.report_lines.specs.Lines.{is_parent}

-- a place, or none
place_test : (i : ℕ) (o : Option ℕ) → option_eq eqb (found o) (Some i) ≡ is_place i o
place_test i none = refl
place_test i (some j) = eqb_swap j i

module _ (f : Bytes) (table : List Row) (places : List ElementPlaces) (n : ℕ) (p : Policy) (is : p.elements ≡ reverse (elements_to f table places n)) where
  -- the elements' depths and their parents
  depth_is : (i : ℕ) → i < n → depth_at p.elements i ≡ depth_of table i
  unfolding element_in element_at
  depth_is i l = element_at_lem f table places n p is (λ e. e.depth) 0 i l

  parent_is : (j : ℕ) → j < n → parent_in table j ≡ parent_of p.elements j
  unfolding parent_in
  parent_is j l =
      last_alike (λ i. eqb (suc (depth_of table i)) (depth_of table j)) (λ i. eqb (suc (depth_at p.elements i)) (depth_at p.elements j)) j
      (λ i u. rw (depth_is i (omega arith), depth_is j l))

  -- the children of a place, by a list of parents
  pub children_are : (parents : List (Found ℕ)) → ((j : ℕ) → j < n → get_or parents j None ≡ found (parent_in table j))
      → (i : ℕ) → keep (λ j. is_parent parents j i) (counting 0 n) ≡ children_of p.elements i
  unfolding children_of
  children_are parents parented i =
      keep_alike (λ j. is_parent parents j i) (λ j. is_place i (parent_of p.elements j)) (counting 0 n) (λ j m. child_is j (omega (arith, counting_only 0 n j m)))
      ∙ ap (λ k. keep (λ j. is_place i (parent_of p.elements j)) (counting 0 k)) (sym (count_is f table places n p is))
    where
      child_is : (j : ℕ) → j < n → is_parent parents j i ≡ is_place i (parent_of p.elements j)
      child_is j u = ap (λ o. option_eq eqb o (Some i)) (parented j u) ∙ place_test i (parent_in table j) ∙ ap (is_place i) (parent_is j u)
