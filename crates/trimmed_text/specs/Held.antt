-- What trimming a file rule by rule or in steps, a proposal beside it and its report ask of the table and the places that are lent.
use Rattle.std.specs.Prelude.{◌≡◌, ℕ, ◌<◌, List, reverse, length}
use Rattle.meaning.specs.Text.{Bytes}
use Rattle.meaning.specs.Model.{Policy, given, space}
use Rattle.meaning.specs.Reading.{read}
use Rattle.meaning.specs.Deciding.{hits}
use Rattle.table.specs.declared.Row.{Row}
use Rattle.table.specs.declared.Shape.{Shape}
use Rattle.table.specs.Shape.{hit_of}
use Rattle.outcomes.specs.PolicyTable.{PolicyTable}
use Rattle.layout.specs.declared.ElementPlaces.{ElementPlaces}
use Rattle.layout.specs.Places.{elements_to, Naming, Obliged, line_start, Lined}
use Rattle.outcomes.specs.Decided.{none_struck}

-- they hold the policy that reading f gives, which has this shape, and where its lines start
pub record PolicyHeld (f : Bytes) (table : List Row) (places : List ElementPlaces) (s : Shape) : Type 0 where
  pub policy : Policy
  pub is_read : read f ≡ given policy
  pub elements : policy.elements ≡ reverse (elements_to f table places s.n)
  pub hits_are : (m : ℕ) → hit_of s m ≡ hits policy m
  pub space_is : s.space ≡ space policy.attributes
  pub len_is : s.len ≡ length policy.attributes
  pub ready : PolicyTable table none_struck s
  pub naming : Naming f places s.n
  pub obliged : (i : ℕ) → i < s.n → Obliged f places i
  pub lined : Lined (line_start f) places (length policy.attributes) s.n (length f)
