-- A request by value, as the meaning's list of numbers.
use Rattle.std.specs.Prelude.{ℕ, ◌≤◌, ◌<◌, Bool, List, ◌++◌, length, take, drop, get_or}
use Rattle.meaning.specs.Model.{product, padded}
use Rattle.requests.specs.declared.Request.{Request}

abbrev pub values_of : Request → List ℕ
values_of q = take q.len q.values

-- at which attributes they are sets
abbrev pub severals_of : Request → List Bool
severals_of q = take q.len q.several

-- the request of these numbers, with zeros behind them; and one whose numbers become these, the places behind as they were
abbrev pub request_with : List Bool → List ℕ → Request
request_with several vs = record { several = several; values = padded 6 vs; len = length vs }

abbrev pub revalued : Request → List ℕ → Request
revalued q vs = record { several = q.several; values = vs ++ drop q.len q.values; len = q.len }

-- a request of at most six attributes, each number below its count, in a space of at most 4,096
pub record Fitting (counts : List ℕ) (q : Request) : Type 0 where
  pub few : q.len ≤ 6
  pub below : (k : ℕ) → k < q.len → get_or q.values k 0 < get_or counts k 0
  pub small : product (take q.len counts) ≤ 4096
