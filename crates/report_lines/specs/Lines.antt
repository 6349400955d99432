-- The report's text, from what was found of a policy: its names stand in the file, at their places.
use Rattle.std.specs.Prelude.{ℕ, ◌+◌, ◌-◌, Bool, cond, Option, None, Some, List, [], ◌∷◌, map, eqb, ltb, get_or}
use Rattle.std.specs.Option.{option_eq}
use Rattle.meaning.specs.declared.Decision.{Decision}
use Rattle.meaning.specs.Text.{Bytes, bytes, keep, gathered, counting, comma, line, decimal}
use Rattle.meaning.specs.Model.{decision_text}
use Rattle.meaning.specs.Deciding.{bit}
use Rattle.meaning.specs.Report.{or_dash}
use Rattle.table.specs.Words.{word_in}
use Rattle.layout.specs.declared.ElementPlaces.{ElementPlaces}
use Rattle.layout.specs.Places.{name_in}
use Rattle.report_lines.specs.declared.segment_lines.Segment.{Segment}
use Rattle.report_lines.specs.declared.conflict_lines.Conflict.{Conflict}

-- element i is the parent of j
abbrev pub is_parent : List (Option ℕ) → ℕ → ℕ → Bool
is_parent parents j i = option_eq eqb (get_or parents j None) (Some i)

-- A file, and the places of its elements' names
module _ (f : Bytes) (places : List ElementPlaces) where
  -- `C`: for a pair j and k of children of i; at place k of row j stands the request that shows their conflict, or the number of requests
  abbrev pub pair_at : List (List ℕ) → ℕ → ℕ → ℕ
  pair_at = word_in

  abbrev pub conflict_row : Conflict → Bytes
  conflict_row c = line (bytes "C" ∷ name_in f places c.parent ∷ name_in f places c.earlier ∷ name_in f places c.later ∷ decimal c.request ∷ [])

  unfoldable pub conflict_line : (pairs : List (List ℕ)) (space : ℕ) → ℕ → ℕ → ℕ → Bytes
  conflict_line pairs space i j k =
      cond (ltb (pair_at pairs j k) space) (conflict_row (record { parent = i; earlier = j; later = k; request = pair_at pairs j k })) []

  -- `X`: for an element that is struck
  unfoldable pub struck_line : ℕ → Bytes
  struck_line i = line (bytes "X" ∷ name_in f places i ∷ [])

  unfoldable pub struck_text : (order : List ℕ) → Bytes
  struck_text order = gathered struck_line order

  -- `K`: for an element with a request in the space
  abbrev pub kept_for : (space : ℕ) → ℕ → Option ℕ → Bytes
  kept_for space i None = []
  kept_for space i (Some m) = cond (ltb m space) (line (bytes "K" ∷ name_in f places i ∷ decimal m ∷ [])) []

  unfoldable pub kept_line : (shown : List (Option ℕ)) (space : ℕ) → ℕ → Bytes
  kept_line shown space i = kept_for space i (get_or shown i None)

  -- how many elements there are
  module _ (n : ℕ) where
    unfoldable pub kept_text : (shown : List (Option ℕ)) (space : ℕ) → Bytes
    kept_text shown space = gathered (kept_line shown space) (counting 0 n)

    -- the names of the elements whose bits are set in a word
    unfoldable pub names_of : ℕ → List Bytes
    names_of w = map (name_in f places) (keep (bit w) (counting 0 n))

    -- the names of those from i on, a comma before each
    abbrev pub comma_name : (w i : ℕ) → Bytes
    comma_name w i = cond (bit w i) (comma ∷ name_in f places i) []

    unfoldable pub later_names : (w i : ℕ) → Bytes
    later_names w i = gathered (comma_name w) (counting i (n - i))

    -- `G`: for request m where the size is not 0, with its word of applying elements and its decision
    abbrev pub segment_row : Segment → Bytes
    segment_row s = line (bytes "G" ∷ decimal s.first ∷ decimal s.size ∷ decision_text s.decision ∷ or_dash (names_of s.word) ∷ [])

    unfoldable pub segment_line : (words sizes : List ℕ) (decided : List Decision) → ℕ → Bytes
    segment_line words sizes decided m =
        let size = get_or sizes m 0 in
        cond (eqb size 0) [] (segment_row (record { first = m; size = size; decision = get_or decided m Decision.Permit; word = get_or words m 0 }))

    unfoldable pub segment_text : (words sizes : List ℕ) (decided : List Decision) (space : ℕ) → Bytes
    segment_text words sizes decided space = gathered (segment_line words sizes decided) (counting 0 space)

    -- by the elements' parents
    module _ (parents : List (Option ℕ)) (pairs : List (List ℕ)) (space : ℕ) where
      abbrev pub is_child : ℕ → ℕ → Bool
      is_child i j = is_parent parents j i

      -- j with each later child k of i
      unfoldable pub later_line : ℕ → ℕ → ℕ → Bytes
      later_line i j k = cond (is_child i k) (conflict_line pairs space i j k) []

      unfoldable pub later_lines : ℕ → ℕ → Bytes
      later_lines i j = cond (is_child i j) (gathered (later_line i j) (counting (j + 1) (n - (j + 1)))) []

      -- each pair of children of i, and of all parents
      unfoldable pub pair_lines : ℕ → Bytes
      pair_lines i = gathered (later_lines i) (counting 0 n)

      unfoldable pub conflict_text : Bytes
      conflict_text = gathered pair_lines (counting 0 n)
