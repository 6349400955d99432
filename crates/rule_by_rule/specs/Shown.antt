-- What is shown of the next rule.
use Rattle.std.specs.Prelude.{ℕ, List, [], Option, Some, None}
use Rattle.meaning.specs.Text.{Bytes}
use Rattle.layout.specs.declared.ElementPlaces.{ElementPlaces}
use Rattle.layout.specs.Places.{name_in}

-- the name of the next element, or no byte where there is none
abbrev pub name_or_none : Bytes → List ElementPlaces → Option ℕ → Bytes
name_or_none f places None = []
name_or_none f places (Some i) = name_in f places i
