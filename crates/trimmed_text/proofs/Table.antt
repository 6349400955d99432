-- The elements left of a policy, and those left of the table that it was read into.
use mathlib.Core.Path.{◌≡◌, refl, sym, ap, ◌∙◌}
use Prim.Native.Nat.{ℕ, zero, suc, ◌+◌, ◌-◌, ◌<◌}
use native.Mathlib.Omega.{arith}
use mathlib.Core.Logic.{◌≢◌}
use mathlib.Core.List.{List, [], ◌∷◌, ◌++◌, map, reverse, reverse-cons, map-append}
use lib.Dec.{eqb}
use lib.ListN.{length, get_or, length-map, length-reverse, replicate, get_or-append}
use lib.Seq.{take-append_seam, get_or_at}
use borrow.Author.Tests.{eqb-true, eqb-false}
use Rattle.meaning.specs.declared.Element.{Element}
use Rattle.meaning.specs.Text.{Bytes}
use Rattle.meaning.specs.Model.{name_of, Policy}
use Rattle.meaning.specs.Report.{name_in}
use Rattle.laws.proofs.Bools.{Test, passed, failed, test}
use Rattle.table.specs.declared.Row.{Row}
use Rattle.table.specs.Tree.{left}
use Rattle.layout.specs.declared.ElementPlaces.{ElementPlaces}
use Rattle.layout.specs.Places.{name_in as name_in_file, element_in, elements_to}
use Rattle.layout.proofs.Laws.{elements_length, bare, map_reverse, elements_bare, all_left}
use Rattle.obligations.specs.Given.{left_elements}
use Rattle.obligations.proofs.Left.{all_elements}
use Rattle.trimmed_text.specs.Flags.{left_from}

-- flags leave of a table's elements what they leave of all
left_again : (f : Bytes) (table : List Row) (places : List ElementPlaces) (struck : List ℕ) (i n : ℕ) → left_elements f table places struck i n ≡ left_from struck i (left_elements f table places [] i n)
unfolding left_elements left_from
left_again f table places struck i zero = refl
left_again f table places struck i (suc n) = rw (left_again f table places struck (i + 1) n)

-- elements that were read, by their places
module _ (f : Bytes) (table : List Row) (places : List ElementPlaces) where
  elements_at : {A : Type 0} (F : Element → A) (d : A) (n i : ℕ) → i < n → get_or (map F (reverse (elements_to f table places n))) i d ≡ F (element_in f table places i)
  unfolding elements_to
  elements_at F d zero i l = absurd (omega arith)
  elements_at {A} F d (suc n) i l =
      ap (λ xs. get_or xs i d) (ap (map F) (reverse-cons (element_in f table places n) (elements_to f table places n)) ∙ map-append F before (element_in f table places n ∷ []))
      ∙ go (test (eqb i n)) (elements_at F d n i)
    where
      before : List Element
      before = reverse (elements_to f table places n)

      size : length (map F before) ≡ n
      size = length-map before F ∙ length-reverse (elements_to f table places n) ∙ elements_length f table places n

      go : Test (eqb i n) → (i < n → get_or (map F before) i d ≡ F (element_in f table places i)) → get_or (map F before ++ (F (element_in f table places n) ∷ [])) i d ≡ F (element_in f table places i)
      go (passed e) earlier = rw (eqb-true i n e) (get_or_at (map F before) (F (element_in f table places n)) [] d n size)
      go (failed e) earlier =
          let other : i ≢ n = eqb-false i n e in
          get_or-append (map F before) (F (element_in f table places n) ∷ []) d i (omega (arith, size)) ∙ earlier (omega arith)

module _ (f : Bytes) (table : List Row) (places : List ElementPlaces) (n : ℕ) (p : Policy) (is : p.elements ≡ reverse (elements_to f table places n)) where
  -- how many elements there are
  pub count_is : length p.elements ≡ n
  count_is = ap length is ∙ length-reverse (elements_to f table places n) ∙ elements_length f table places n

  -- Where nothing is struck, all are left
  pub whole_left : (struck : List ℕ) → ((k : ℕ) → k < n → get_or struck k 0 ≡ 0) → left table struck 0 n ≡ map bare p.elements
  whole_left struck live = all_left table struck n live ∙ ap reverse (sym (elements_bare f table places n)) ∙ sym (map_reverse bare (elements_to f table places n)) ∙ ap (map bare) (sym is)

  -- The elements left of the table are those of the policy left
  pub elements_left : (struck : List ℕ) → left_elements f table places struck 0 n ≡ left_from struck 0 p.elements
  elements_left struck = left_again f table places struck 0 n ∙ ap (left_from struck 0) (all_elements f table places [] n (λ k l. refl) ∙ sym is)

  -- What an element of the policy has is what stands at its place
  pub element_at_lem : {A : Type 0} (F : Element → A) (d : A) (i : ℕ) → i < n → get_or (map F p.elements) i d ≡ F (element_in f table places i)
  element_at_lem F d i l = ap (λ es. get_or (map F es) i d) is ∙ elements_at f table places F d n i l

  pub name_at_lem : (i : ℕ) → i < n → name_in p.elements i ≡ name_in_file f places i
  unfolding element_in
  name_at_lem i l = element_at_lem name_of [] i l ∙ take-append_seam (name_in_file f places i) (replicate (16 - length (name_in_file f places i)) 0)
