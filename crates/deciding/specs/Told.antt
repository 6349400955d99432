-- What a request gets, for a lent buffer.
use Rattle.std.specs.Prelude.{◌≡◌, ℕ, ◌≤◌, ◌<◌, cond, eqb, List, length, replicate}
use Rattle.meaning.specs.declared.Answer.{Answer}
use Rattle.meaning.specs.declared.Decided.{Decided}
use Rattle.meaning.specs.declared.Decision.{Decision}
use Rattle.meaning.specs.Text.{Bytes}
use Rattle.meaning.specs.Model.{Result, given, ◌then◌, fitted}
use Rattle.meaning.specs.Deciding.{Outcome, decision_number, matches}
use Rattle.meaning.specs.Operations.{lent, decided_by}
use Rattle.requests.specs.declared.Request.{Request}
use Rattle.requests.specs.Values.{values_of, severals_of}
use Rattle.table.specs.declared.Row.{Row}
use Rattle.table.specs.Rows.{Rows}
use Rattle.layout.specs.declared.ElementPlaces.{ElementPlaces}
use Rattle.layout.specs.Places.{Obliged}
use Rattle.obligations.specs.Given.{outcome_left}

-- the answer with a decision, from the answer for the text of its obligations
abbrev pub deciding : Answer → Decision → Decided
deciding told d = cond (eqb told.number 0) (record { number = 0; second = decision_number d; length = told.second }) (record { number = told.number; second = told.second; length = 0 })

-- a request is permitted or denied: obligations may come
abbrev pub Effect : Decision → Type 0
Effect d = decision_number d < 2

-- what a request gets from the elements of a table, none of which is struck
abbrev pub outcome_on : Bytes → (table : List Row) (places : List ElementPlaces) → ℕ → Request → Outcome
outcome_on f table places n q = outcome_left (matches (severals_of q) (values_of q)) f table places (replicate 64 0) n

-- an outcome for a buffer of so many bytes: 11 where its obligations do not fit
abbrev pub outcome_for : ℕ → Outcome → Result Outcome
outcome_for room o = fitted room o.obligations then λ b. given o

-- r is the answer for the outcome, and new what the buffer that was old holds afterwards
pub record Told (old new : Bytes) (o : Outcome) (r : Decided) : Type 0 where
  pub answers : r ≡ decided_by (outcome_for (length old) o)
  pub lends : new ≡ lent old (outcome_for (length old) o then λ x. given x.obligations)

-- 1 to 64 elements whose obligations lie in the file, and a request of at most six attributes
pub record Asking (f : List ℕ) (table : List Row) (places : List ElementPlaces) (n : ℕ) (q : Request) : Type 0 where
  pub rows : Rows table n
  pub some : 1 ≤ n
  pub few : n ≤ 64
  pub each : (i : ℕ) → i < n → Obliged f places i
  pub values : q.len ≤ 6
