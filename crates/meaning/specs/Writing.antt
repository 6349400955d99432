-- The lent list, and the writer.
use Rattle.std.specs.Prelude.{ℕ, suc, ◌+◌, ◌/◌, ◌%◌, true, not, cond, List, [], ◌∷◌, ◌++◌, length, ltb, eqb}
use Rattle.meaning.specs.Text.{Bytes, bytes, gathered, join, comma, line, decimal, is_name}
use Rattle.meaning.specs.Model.{Attribute, Obligation, Element, name_of, obligation_name, obligations_of, with_obligations, full, Result, refused, given, ◌then◌, unless, kind_text, word_text}
use Rattle.meaning.specs.Reading.{Line, attribute_line, tree_line, obligation_line, other_line, Sofar, Tests, lowest, attribute_tests, element_tests, obligation_tests, with_element, with_obligation, read_text, short, finished, read}
use Rattle.meaning.specs.Report.{fitted}

-- The operation: the elements of a file, for a list of so many places; 12 if it is too short
unfoldable pub list_file : ℕ → Bytes → Result (List Element)
list_file room f = read f then λ p. cond (ltb room (length p.elements)) (refused 12 (length p.elements)) (given p.elements)

-- The writer tests the attribute lines as reading does; a tree line there is 6, an `O` line 14
abbrev pub header_tests : Sofar → Line → Tests
header_tests s (attribute_line a) = attribute_tests s a
header_tests s (tree_line k d n w ts) = (3, not (is_name n)) ∷ (6, true) ∷ []
header_tests s (obligation_line n w) = (3, not (is_name n)) ∷ (14, true) ∷ []
header_tests s other_line = []

-- then each element by 3 to 8, on the line n that it would have, and its obligations on the lines behind it
abbrev pub read_obligations : ℕ → Sofar → List Obligation → Result Sofar
read_obligations n s [] = given s
read_obligations n s (o ∷ os) =
    let later = read_obligations (suc n) (with_obligation s o) os in
    unless (lowest (obligation_tests s (word_text o.word) o)) n later

-- the third obligation has no place: it is 14, on the third line behind
abbrev pub read_element : ℕ → Sofar → Element → Result Sofar
read_element n s e =
    unless (lowest (element_tests s (word_text e.word) e)) n (read_obligations (suc n) (with_element s (with_obligations [] e)) (obligations_of e)) then λ t.
    unless (cond (ltb 2 e.obligations) 14 0) (n + 3) (given t)

abbrev pub read_elements : ℕ → Sofar → List Element → Result Sofar
read_elements n s [] = given s
read_elements n s (e ∷ es) = read_element n s e then λ t. read_elements (n + suc e.obligations) t es

-- A target: `*` of a full mask, else the names of the mask's values by commas
abbrev pub value_names : List Bytes → ℕ → List Bytes
value_names [] m = []
value_names (v ∷ vs) m = cond (eqb (m % 2) 1) (v ∷ value_names vs (m / 2)) (value_names vs (m / 2))

abbrev pub target_text : List Bytes → ℕ → Bytes
target_text vs m = cond (eqb m (full vs)) (bytes "*") (join comma (value_names vs m))

abbrev pub target_texts : List Attribute → List ℕ → List Bytes
target_texts [] ms = []
target_texts (a ∷ attrs) [] = []
target_texts (a ∷ attrs) (m ∷ ms) = target_text a.values m ∷ target_texts attrs ms

-- A tree line: kind, depth, name, word, targets
abbrev pub element_fields : List Attribute → Element → List Bytes
element_fields attrs e = kind_text e.kind ∷ decimal e.depth ∷ name_of e ∷ word_text e.word ∷ target_texts attrs e.masks

-- An obligation's line: `O`, name, word; an element's lines
abbrev pub obligation_fields : Obligation → List Bytes
obligation_fields o = bytes "O" ∷ obligation_name o ∷ word_text o.word ∷ []

abbrev pub element_lines : List Attribute → Element → Bytes
element_lines attrs e = line (element_fields attrs e) ++ gathered (λ o. line (obligation_fields o)) (obligations_of e)

-- The operation: the file of some attribute lines and a list of elements, for a buffer of so many bytes
unfoldable pub write_file : ℕ → Bytes → List Element → Result Bytes
write_file room header es =
    short header then λ h.
    read_text header_tests h then λ s.
    read_elements (suc (length s.attributes)) s es then finished then λ p.
    short (h ++ gathered (element_lines p.attributes) p.elements) then
    fitted room
