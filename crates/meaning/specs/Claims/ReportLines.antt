-- The lines of a report, each by its fields.
use Rattle.std.specs.Prelude.{ℕ, false, List, [], ◌∷◌, map, length, get_or}
use Rattle.meaning.specs.Text.{Bytes, bytes, keep, counting, cut, join, tab, comma, line, decimal}
use Rattle.meaning.specs.Model.{Element, name_of, Policy, decision_text}
use Rattle.meaning.specs.Deciding.{decision_on}
use Rattle.meaning.specs.Trimming.{lines}
use Rattle.meaning.specs.Segments.{applying_to, Conflict}

-- the name of the element at a place of the file
abbrev pub name_on : List Element → ℕ → Bytes
name_on es i = get_or (map name_of es) i []

abbrev pub by_commas : List Bytes → Bytes
by_commas [] = bytes "-"
by_commas (n ∷ ns) = join comma (n ∷ ns)

-- `G`, first request, how many requests, decision, names of the applying elements in file order by commas, or `-`
abbrev pub segment_row : Policy → (ℕ → ℕ) → ℕ → List Bytes
segment_row p size n = bytes "G" ∷ decimal n ∷ decimal (size n) ∷ decision_text (decision_on p n)
    ∷ by_commas (map (name_on p.elements) (keep (λ i. get_or (applying_to p n) i false) (counting 0 (length p.elements)))) ∷ []

-- `C`, parent, earlier child, later child, request
abbrev pub conflict_row : List Element → Conflict → List Bytes
conflict_row es c = bytes "C" ∷ name_on es c.parent ∷ name_on es c.earlier ∷ name_on es c.later ∷ decimal c.request ∷ []

-- `X`, rule
abbrev pub struck_row : Bytes → List Bytes
struck_row name = bytes "X" ∷ name ∷ []

-- `K`, kept rule, first request whose decision, or its obligations, change without it in the trimmed policy
abbrev pub kept_row : Bytes → ℕ → List Bytes
kept_row name n = bytes "K" ∷ name ∷ decimal n ∷ []

-- `E`, number and second number
abbrev pub error_line : ℕ → ℕ → Bytes
error_line n m = line (bytes "E" ∷ decimal n ∷ decimal m ∷ [])

-- the lines of a text, each as its fields; behind the last newline stands an empty one
abbrev pub field_lines : Bytes → List (List Bytes)
field_lines t = map (cut tab) (lines t)
