-- What reading lays down: a row of the table and the places of each element, and those of each obligation.
use Rattle.std.specs.Prelude.{ℕ, ◌+◌, ◌-◌, List, length}
use Rattle.meaning.specs.Model.{padded}
use Rattle.meaning.specs.Reading.{Line, attribute_line, tree_line, obligation_line, other_line, depth_of, word_of, masks_of, Sofar, nearest_obligations, extended}
use Rattle.table.specs.declared.Row.{Row}
use Rattle.table.specs.Rows.{row_of, with_row}
use Rattle.layout.specs.declared.ElementPlaces.{ElementPlaces}
use Rattle.layout.specs.Places.{with_name, with_obligation}

-- what was read so far, and the table and the places with it
pub record Laid : Type 0 where
  pub sofar : Sofar
  pub table : List Row
  pub places : List ElementPlaces

-- a tree line's element has its word, its depth and its masks in the table; its places are where its line starts, which
-- is `at`, and where its name ends. Those of an obligation are where its name starts and ends
abbrev pub table_with : Sofar → Line → List Row → List Row
table_with s (tree_line k d n w ts) table = with_row table (length s.before) (row_of (word_of k w) (depth_of d) (padded 6 (masks_of s.attributes ts)))
table_with s (attribute_line a) table = table
table_with s (obligation_line n w) table = table
table_with s other_line table = table

abbrev pub places_with : ℕ → Sofar → Line → List ElementPlaces → List ElementPlaces
places_with at s (tree_line k d n w ts) places = with_name places (length s.before) at (at + 4 + length n)
places_with at s (attribute_line a) places = places
places_with at s (obligation_line n w) places = with_obligation places (length s.before - 1) (length (nearest_obligations s.before)) (record { start = at + 2; end = at + 2 + length n })
places_with at s other_line places = places

abbrev pub with_line : ℕ → Laid → Line → Laid
with_line at x l =
    record { sofar = extended x.sofar l; table = table_with x.sofar l x.table; places = places_with at x.sofar l x.places }
