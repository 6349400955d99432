-- What reading a file lays down in the table and the places.
use Rattle.std.specs.Prelude.{ℕ, ◌+◌, cond, List, [], ◌∷◌, eqb, ltb, length}
use Rattle.meaning.specs.Text.{Bytes, front, cut, tab, newline}
use Rattle.meaning.specs.Reading.{line_of, nothing}
use Rattle.table.specs.declared.Row.{Row}
use Rattle.attribute_lines.specs.Sofar.{refusal_of}
use Rattle.attribute_lines.specs.Laid.{Laid, with_line}
use Rattle.layout.specs.declared.ElementPlaces.{ElementPlaces}

-- the lines before the first that is refused; the first of all starts at `at`
unfoldable pub laid_by : ℕ → Laid → List Bytes → Laid
laid_by at x [] = x
laid_by at x (l ∷ ls) =
    let fs = cut tab l in
    let later = laid_by (at + length l + 1) (with_line at x (line_of fs)) ls in
    cond (eqb (refusal_of x.sofar fs) 0) later x

-- those of a file: all of its lines where it is accepted, none where it is too long
abbrev pub laid_in : Bytes → List Row → List ElementPlaces → Laid
laid_in f table places =
    let blank : Laid = record { sofar = nothing; table = table; places = places } in
    cond (ltb 16384 (length f)) blank (laid_by 0 blank (front (cut newline f)))
