-- What was read so far, as the places and the table stand for it, and the tests of a line by its fields.
use Rattle.std.specs.Prelude.{ℕ, ◌-◌, ◌*◌, ◌≤◌, ◌<◌, ◌≡◌, Bool, true, false, cond, List, [], ◌∷◌, ltb, eqb, length, drop, get_or}
use Rattle.std.proofs.Math.Option.{some}
use Rattle.meaning.specs.declared.Kind.{Kind}
use Rattle.meaning.specs.Text.{Bytes, empty, all, is_field}
use Rattle.meaning.specs.Model.{Attribute, space as space_of, letter_text, choices_of}
use Rattle.meaning.specs.Reading.{Line, kind_of, attribute_letter, obligation_letter, line_of, Sofar, Tests, lowest, wrong_fields, attribute_tests, line_tests}
use Rattle.syntax.specs.declared.LineKind.{LineKind}
use Rattle.syntax.specs.Fields.{line_kind}
use Rattle.table.specs.declared.Row.{Row}
use Rattle.layout.specs.declared.Attributes.{Attributes}
use Rattle.layout.specs.declared.ElementPlaces.{ElementPlaces}
use Rattle.layout.specs.Places.{attributes_of, AllStanding, elements_to}
use Rattle.attribute_lines.specs.declared.LineShape.{LineShape}

abbrev pub sofar_of : Bytes → Attributes → List Row → List ElementPlaces → ℕ → Sofar
sofar_of f a table places n = record { attributes = attributes_of f a; before = elements_to f table places n }

-- the number that refuses a line of these fields under tests from 3 on, or 0; and under those of a file
unfoldable pub refusal_by : (Sofar → Line → Tests) → Sofar → List Bytes → ℕ
refusal_by tests s fs = lowest ((2, wrong_fields s fs (line_of fs)) ∷ tests s (line_of fs))

abbrev pub refusal_of : Sofar → List Bytes → ℕ
refusal_of s fs = refusal_by line_tests s fs

-- the attribute of an attribute line
abbrev pub attribute_in : (several : Bool) → List Bytes → Attribute
attribute_in several fs = record { several = several; name = get_or fs 1 []; values = drop 2 fs }

-- An attribute line under its tests 3 to 6: the attributes before it, the space that they make, and its fields, so many
pub record Tested (f : Bytes) (a : Attributes) (space : ℕ) (fs : List Bytes) (fields : ℕ) : Type 0 where
  pub standing : AllStanding f a
  pub space_is : space ≡ space_of (attributes_of f a)
  pub small : space ≤ 4096
  pub count : fields ≡ length fs
  pub three : 3 ≤ fields

-- the lowest of them, whatever the elements before it are; where that is 0 there is room for the attribute
pub record AttributeRefusal (f : Bytes) (a : Attributes) (space elements : ℕ) (several : Bool) (fs : List Bytes) (fields r : ℕ) : Type 0 where
  pub is_lowest : (s : Sofar) → s.attributes ≡ attributes_of f a → empty s.before ≡ eqb elements 0 → r ≡ lowest (attribute_tests s (attribute_in several fs))
  pub few : r ≡ 0 → a.len < 6
  pub few_values : r ≡ 0 → fields - 2 ≤ 16
  pub small_space : r ≡ 0 → space * choices_of several (fields - 2) ≤ 4096
  pub no_element : r ≡ 0 → elements ≡ 0

-- the fields of an attribute line, of a tree line of this kind and of an obligation's: all are fields, so many
pub record AttributeLine (several : Bool) (fs : List Bytes) (n : ℕ) : Type 0 where
  pub fields : all is_field fs ≡ true
  pub count : n ≡ length fs
  pub three : 3 ≤ n
  pub letter : get_or fs 0 [] ≡ letter_text several

pub record TreeLine (fs : List Bytes) (k : Kind) (n : ℕ) : Type 0 where
  pub fields : all is_field fs ≡ true
  pub count : n ≡ length fs
  pub three : 3 ≤ n
  pub no_attribute : attribute_letter (get_or fs 0 []) ≡ false
  pub no_obligation : obligation_letter (get_or fs 0 []) ≡ false
  pub letter : kind_of (get_or fs 0 []) ≡ some k

pub record ObligationLine (fs : List Bytes) (n : ℕ) : Type 0 where
  pub fields : all is_field fs ≡ true
  pub count : n ≡ length fs
  pub three : 3 ≤ n
  pub no_attribute : attribute_letter (get_or fs 0 []) ≡ false
  pub letter : obligation_letter (get_or fs 0 []) ≡ true

-- so many fields, or 0 where one of them is none
abbrev pub CountIs : List Bytes → ℕ → Type 0
CountIs fs n = n ≡ cond (all is_field fs) (length fs) 0

-- a line of these fields by its first one; other where they are too few
abbrev pub shape_of : List Bytes → LineShape
shape_of fs =
    let n = cond (all is_field fs) (length fs) 0 in
    record { kind = cond (ltb n 3) LineKind.Other (line_kind (get_or fs 0 [])); fields = n }
