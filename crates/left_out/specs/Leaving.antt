-- A proposal beside a file, element by element: the rules whose lines it leaves out.
use Rattle.std.specs.Prelude.{ℕ, zero, suc, ◌+◌, ◌-◌, Bool, false, cond, List, eqb, ltb, length, set}
use Rattle.meaning.specs.Text.{Bytes, same}
use Rattle.table.specs.declared.Row.{Row}
use Rattle.table.specs.Rows.{word_number}
use Rattle.layout.specs.declared.ElementPlaces.{ElementPlaces}
use Rattle.layout.specs.Places.{part, start_of}
use Rattle.trimmed_text.specs.Copied.{lines_end}

-- whether the proposal is the file's lines without those of the rules struck, and the flags
pub record Leaving : Type 0 where
  pub whole : Bool
  pub flags : List ℕ

-- A file, where its elements' lines stand, its table and how many they are, and a proposal
module _ (f : Bytes) (places : List ElementPlaces) (t : List Row) (n : ℕ) (g : Bytes) where
  -- the proposal has, from a place on, the file's bytes from start to end
  abbrev pub begins : (at start end : ℕ) → Bool
  begins at start end = same (part g at (at + (end - start))) (part f start end)

  -- m elements from element i on, the proposal's bytes being matched up to a place: the lines of each stand there, or it is a rule and
  -- is struck; at the end nothing is left over
  unfoldable pub leaving_from : (m i at : ℕ) → List ℕ → Leaving
  leaving_from zero i at struck = record { whole = eqb at (length g); flags = struck }
  leaving_from (suc m) i at struck =
      let start = start_of places i in
      let end = lines_end f places n i in
      let matched = leaving_from m (i + 1) (at + (end - start)) struck in
      let left = leaving_from m (i + 1) at (set struck i 1) in
      let other : Leaving = record { whole = false; flags = struck } in
      cond (begins at start end) matched (cond (ltb (word_number t i) 2) left other)

  -- all elements, behind the bytes before them
  abbrev pub leaving : List ℕ → Leaving
  leaving struck = cond (begins 0 0 (start_of places 0)) (leaving_from n 0 (start_of places 0) struck) (record { whole = false; flags = struck })
