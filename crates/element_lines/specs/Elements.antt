-- A tree line's element: the tests before that of its targets, its masks, and where it goes.
use Rattle.std.specs.Prelude.{◌≤◌, ◌<◌, ◌+◌, ◌≡◌, ◌||◌, not, List, [], ◌∷◌, map, leb, length, drop, get_or}
use Rattle.meaning.specs.declared.Kind.{Kind}
use Rattle.meaning.specs.declared.Element.{Element}
use Rattle.meaning.specs.Text.{Bytes, empty, is_none, among_names}
use Rattle.meaning.specs.Model.{Attribute, name_of}
use Rattle.meaning.specs.Reading.{word_of, element_of, Sofar, well_placed, Tests, bad_name, bad_unused, depth_of}
use Rattle.table.specs.declared.Row.{Row}
use Rattle.table.specs.Rows.{Rows}
use Rattle.layout.specs.declared.Attributes.{Attributes}
use Rattle.layout.specs.declared.Tree.{Tree}
use Rattle.layout.specs.declared.ElementPlaces.{ElementPlaces}
use Rattle.layout.specs.Places.{attributes_of, names_to}
use Rattle.layout.specs.Nearest.{Stands}
use Rattle.attribute_lines.specs.declared.State.{State}

-- the element of a tree line of this kind
abbrev pub element_from : List Attribute → Kind → List Bytes → Element
element_from attrs k fs = element_of attrs k (get_or fs 1 []) (get_or fs 2 []) (get_or fs 3 []) (drop 4 fs)

-- what was read so far is what attributes, places and a tree stand for
pub record Behind (f : Bytes) (a : Attributes) (places : List ElementPlaces) (tree : Tree) (s : Sofar) : Type 0 where
  pub attributes : s.attributes ≡ attributes_of f a
  pub stands : Stands tree s.before
  pub names : map name_of s.before ≡ names_to f places tree.len

-- 3 to 7 of an element: the tests before that of its targets
abbrev pub earlier_tests : Sofar → Bytes → Element → Tests
earlier_tests s w e =
    (3, bad_name e || bad_unused e)
    ∷ (4, among_names (name_of e) (map name_of s.before))
    ∷ (5, leb 64 (length s.before))
    ∷ (6, empty s.attributes || not (well_placed e.kind e.depth s.before))
    ∷ (7, is_none (word_of e.kind w))
    ∷ []

-- room for the element of a tree line of these fields
pub record Fits (table : List Row) (places : List ElementPlaces) (st : State) (fs : List Bytes) : Type 0 where
  pub row : Rows table (st.tree.len + 1)
  pub pair : st.tree.len < length places
  pub few : st.tree.len < 64
  pub shallow : depth_of (get_or fs 1 []) ≤ 7
  pub name_inside : st.at + 4 + length (get_or fs 2 []) < 18446744073709551615
