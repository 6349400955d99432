-- The text of the lines that flags leave, by the places where the lines start.
use Rattle.std.specs.Prelude.{ℕ, ◌+◌, ◌≤◌, ◌<◌, ◌≡◌, cond, List, [], ◌++◌, ltb, length}
use Rattle.meaning.specs.Text.{Bytes, gathered, counting}
use Rattle.layout.specs.declared.ElementPlaces.{ElementPlaces}
use Rattle.layout.specs.Places.{part, start_of}
use Rattle.trimmed_text.specs.Flags.{is_left}

-- the end of element i's lines, its own and its obligations', among n elements: the next element's start, or the file's end
abbrev pub lines_end : Bytes → List ElementPlaces → ℕ → ℕ → ℕ
lines_end f places n i = cond (ltb (i + 1) n) (start_of places (i + 1)) (length f)

-- those lines, if it is left
abbrev pub piece_at : Bytes → (places : List ElementPlaces) (struck : List ℕ) → ℕ → ℕ → Bytes
piece_at f places struck n i = cond (is_left struck i) (part f (start_of places i) (lines_end f places n i)) []

-- the bytes before the first element's line, and the lines left of n elements
unfoldable pub copied : Bytes → (places : List ElementPlaces) (struck : List ℕ) → ℕ → Bytes
copied f places struck n = part f 0 (start_of places 0) ++ gathered (piece_at f places struck n) (counting 0 n)

-- 1 element or more, whose lines start in the file one behind the other
pub record Copies (f : Bytes) (places : List ElementPlaces) (struck : List ℕ) (n : ℕ) : Type 0 where
  pub some : 1 ≤ n
  pub room : n ≤ length places
  pub flags : n ≤ length struck
  pub rising : (i : ℕ) → i + 1 < n → start_of places i ≤ start_of places (i + 1)
  pub inside : (i : ℕ) → i < n → start_of places i ≤ length f

-- what is left of element i's lines is the part of the file from its start up to e
pub record Piece (f : Bytes) (places : List ElementPlaces) (struck : List ℕ) (n i e : ℕ) : Type 0 where
  pub is : part f (start_of places i) e ≡ piece_at f places struck n i
  pub starts : start_of places i ≤ e
  pub ends : e ≤ lines_end f places n i
  pub inside : e ≤ length f
