-- The places of a line: where a field starts, or past the end of the line where no field is left.
use Rattle.std.specs.Prelude.{ℕ, ◌+◌, cond, List, [], ltb, length, get_or, drop}
use Rattle.meaning.specs.Text.{Bytes, cut, tab}

-- the fields that are left from a place on
abbrev pub fields_from : Bytes → ℕ → List Bytes
fields_from line at = cond (ltb (length line) at) [] (cut tab (drop at line))

-- the field at a place, empty where none is left
abbrev pub field_at : Bytes → ℕ → Bytes
field_at line at = get_or (fields_from line at) 0 []

-- the next place: behind that field and its tab
abbrev pub place_after : Bytes → ℕ → ℕ
place_after line at = cond (ltb (length line) at) at (at + length (field_at line at) + 1)
