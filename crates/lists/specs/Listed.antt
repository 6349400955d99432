-- A file's elements by value, for a list of so many places.
use Rattle.std.specs.Prelude.{ℕ, ◌≤◌, ◌<◌, cond, List, Result as Told, Ok, Err, ◌≡◌, eqb, length}
use Rattle.meaning.specs.declared.Obligation.{Obligation}
use Rattle.meaning.specs.Text.{Bytes}
use Rattle.meaning.specs.Model.{unused, refused, given}
use Rattle.meaning.specs.Writing.{list_file}
use Rattle.refusals.specs.declared.Refused.{Refused}
use Rattle.refusals.specs.Numbers.{number_of}
use Rattle.table.specs.declared.Row.{Row}
use Rattle.table.specs.Rows.{Rows, depth_of}
use Rattle.layout.specs.declared.ElementPlaces.{ElementPlaces}
use Rattle.layout.specs.Places.{obligation_end, obligation_at, Naming, Obliged}
use Rattle.elements.specs.declared.Elements.{Elements}
use Rattle.elements.specs.Listed.{elements_of}

-- what place k for an obligation of element i holds
abbrev pub place_in : Bytes → List ElementPlaces → ℕ → ℕ → Obligation
place_in f places i k = cond (eqb (obligation_end places i k) 0) unused (obligation_at f places i k)

-- what the table and the places hold of n elements: a row, a name and obligations each, and a depth that is no number of a refused file
pub record Filled (f : Bytes) (table : List Row) (places : List ElementPlaces) (n : ℕ) : Type 0 where
  pub rows : Rows table n
  pub naming : Naming f places n
  pub obliged : (i : ℕ) → i < n → Obliged f places i
  pub shallow : (i : ℕ) → i < n → depth_of table i ≤ 7

-- the elements given, or the refusal
abbrev pub Listed : Bytes → ℕ → Told Elements Refused → Type 0
Listed f room (Ok es) = (list_file room f ≡ given (elements_of es)) × (es.len ≡ length (elements_of es)) × (es.len ≤ 64)
Listed f room (Err r) = list_file room f ≡ refused (number_of r.why) r.second
