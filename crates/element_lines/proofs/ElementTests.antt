-- The tests 3 to 7 of a tree line, by what the places, the tree and the fields show.
use Prim.Native.Nat.{ℕ, suc}
use mathlib.Core.Path.{◌≡◌, refl, sym, ap, ◌∙◌}
use mathlib.Core.Bool.{Bool, not, ◌||◌, or-false}
use mathlib.Core.List.{List, [], ◌∷◌}
use mathlib.Core.Option.{Option}
use native.Mathlib.Omega.{arith}
use lib.Dec.{eqb, leb}
use lib.ListN.{length, drop, get_or}
use borrow.Author.Tests.{ne_eqb}
use Rattle.meaning.specs.declared.Word.{Word}
use Rattle.meaning.specs.Text.{Bytes, empty, is_none, among_names, is_name}
use Rattle.meaning.specs.Model.{Attribute}
use Rattle.meaning.specs.Reading.{depth_of, word_of, element_of, Sofar, well_placed, lowest, bad_name, bad_unused}
use Rattle.laws.proofs.Types.{Kind}
use Rattle.laws.proofs.Bounds.{padded_name}
use Rattle.layout.specs.declared.Attributes.{Attributes}
use Rattle.layout.specs.declared.Tree.{Tree}
use Rattle.layout.specs.declared.ElementPlaces.{ElementPlaces}
use Rattle.layout.specs.Places.{names_to}
use Rattle.layout.proofs.Laws.{attributes_length}
use Rattle.attribute_lines.proofs.ObligationShape.{stored_test}
use Rattle.element_lines.specs.Elements.{element_from, Behind, earlier_tests}

-- 3: the name is stored as it is, and both places for obligations are unused
bad_name_lem : (attrs : List Attribute) (k : Kind) (d n w : Bytes) (ts : List Bytes) → let e = element_of attrs k d n w ts in (bad_name e || bad_unused e) ≡ not (is_name n)
bad_name_lem attrs k d n w ts = or-false (bad_name (element_of attrs k d n w ts)) ∙ stored_test n

-- 6: whether there is an attribute, by their number
empty_count : (attrs : List Attribute) → empty attrs ≡ eqb (length attrs) 0
empty_count [] = refl
empty_count (a ∷ attrs) = sym (ne_eqb (suc (length attrs)) 0 (λ e. omega arith))

-- the number that the tests give, by what was found of the name, the count, the place and the word
abbrev pub first_found : (named known : Bool) (count attributes : ℕ) (placed : Bool) → Option Word → ℕ
first_found named known count attributes placed word =
    lowest ((3, not named) ∷ (4, known) ∷ (5, leb 64 count) ∷ (6, eqb attributes 0 || not placed) ∷ (7, is_none word) ∷ [])

module _ (f : Bytes) (a : Attributes) (places : List ElementPlaces) (tree : Tree) (k : Kind) (fs : List Bytes) (s : Sofar) where
  pub tests_found : Behind f a places tree s
      → lowest (earlier_tests s (get_or fs 3 []) (element_from s.attributes k fs))
      ≡ first_found (is_name (get_or fs 2 [])) (among_names (get_or fs 2 []) (names_to f places tree.len)) tree.len a.len (well_placed k (depth_of (get_or fs 1 [])) s.before) (word_of k (get_or fs 3 []))
  tests_found behind =
      let some_attribute : empty s.attributes ≡ eqb a.len 0 = empty_count s.attributes ∙ ap (λ l. eqb (length l) 0) behind.attributes ∙ ap (λ n. eqb n 0) (attributes_length f a) in
      rw (
        bad_name_lem s.attributes k (get_or fs 1 []) (get_or fs 2 []) (get_or fs 3 []) (drop 4 fs),
        padded_name s.attributes k (get_or fs 1 []) (get_or fs 2 []) (get_or fs 3 []) (drop 4 fs),
        behind.names,
        ← behind.stands.count,
        some_attribute,
      )
