-- The writer: which files it makes, and that reading and writing undo each other.
use Rattle.std.specs.Prelude.{◌≡◌, ℕ, ◌≤◌, Bool, true, false, ◌||◌, List, [], ◌∷◌, ◌++◌, length}
use Rattle.meaning.specs.Text.{Bytes, keep, front, gathered, same, newline}
use Rattle.meaning.specs.Model.{Element, places_of, Policy, given, ◌then◌, letter_text}
use Rattle.meaning.specs.Reading.{read}
use Rattle.meaning.specs.Trimming.{lines, field_of}
use Rattle.meaning.specs.Report.{fitted}
use Rattle.meaning.specs.Writing.{write_file}
use Rattle.meaning.specs.Claims.Texts.{All}
use Rattle.meaning.specs.Claims.PolicyFile.{WellFormed}

-- An element of the list has 16 name bytes, six masks, and 16 name bytes in each place for an obligation: its Rattle type says so
pub record Shaped (e : Element) : Type 0 where
  pub name_size : length e.name ≡ 16
  pub masks_size : length e.masks ≡ 6
  pub places_size : All (λ o. length o.name ≡ 16) (places_of e)

-- a text's attribute lines
abbrev pub attribute_line : Bytes → Bool
attribute_line l = same (field_of 0 l) (letter_text false) || same (field_of 0 l) (letter_text true)

abbrev pub attribute_lines : Bytes → Bytes
attribute_lines f = gathered (λ l. l ++ (newline ∷ [])) (keep attribute_line (front (lines f)))

-- Read and written again, the same bytes; written and read again, the same attribute lines and elements
pub record RoundTrips : Type 0 where
  pub rewritten : (f : Bytes) (p : Policy) → read f ≡ given p → (room : ℕ) → write_file room (attribute_lines f) p.elements ≡ fitted room f
  pub reread : (room : ℕ) (header t : Bytes) (es : List Element) → All Shaped es → write_file room header es ≡ given t → ((read t then λ p. given p.elements) ≡ given es) × (attribute_lines t ≡ header)

-- The writer makes a text of attribute lines and a list exactly if it is the policy file that has just these
pub record Made (room : ℕ) (header : Bytes) (es : List Element) (t : Bytes) : Type 0 where
  pub policy : Policy
  pub is_file : WellFormed t policy
  pub same_elements : policy.elements ≡ es
  pub same_lines : attribute_lines t ≡ header
  pub fits : length t ≤ room
