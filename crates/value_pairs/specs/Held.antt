-- What is asked of the attributes, the table and the shape that are lent; and the place of an attribute, or 13.
use Rattle.std.specs.Prelude.{◌≡◌, ℕ, ◌<◌, Option, Some, None, List}
use Rattle.meaning.specs.Text.{Bytes}
use Rattle.meaning.specs.Model.{Policy, sizes, Result, refused, given}
use Rattle.meaning.specs.Reading.{read}
use Rattle.meaning.specs.Deciding.{decision_on}
use Rattle.table.specs.declared.Row.{Row}
use Rattle.table.specs.declared.Shape.{Shape}
use Rattle.table.specs.Shape.{counts_of, hit_of}
use Rattle.outcomes.specs.Decided.{none_struck, decided_at}
use Rattle.outcomes.specs.PolicyTable.{PolicyTable}
use Rattle.layout.specs.declared.Attributes.{Attributes}
use Rattle.layout.specs.Places.{attributes_of, AllStanding}

abbrev pub place_or13 : Option ℕ → Result ℕ
place_or13 None = refused 13 0
place_or13 (Some place) = given place

-- the policy that reading f gives: where its attributes stand, how many choices they have, and what the table decides
pub record PolicyDecided (f : Bytes) (a : Attributes) (table : List Row) (s : Shape) : Type 0 where
  pub policy : Policy
  pub is_read : read f ≡ given policy
  pub attributes : policy.attributes ≡ attributes_of f a
  pub standing : AllStanding f a
  pub counted : s.len ≡ a.len
  pub counts : counts_of s ≡ sizes policy.attributes
  pub ready : PolicyTable table none_struck s
  pub decided : (m : ℕ) → m < s.space → decided_at table s.n (hit_of s) none_struck m ≡ decision_on policy m
