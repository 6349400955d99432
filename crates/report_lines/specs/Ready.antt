-- What the functions ask of the places that are lent.
use Rattle.std.specs.Prelude.{ℕ, ◌≤◌, ◌<◌, List, length, get_or}
use Rattle.meaning.specs.Text.{Bytes}
use Rattle.layout.specs.declared.ElementPlaces.{ElementPlaces}
use Rattle.layout.specs.Places.{NameAt}

-- at most 64 places in order, each of an element with a name
pub record Ordered (f : Bytes) (places : List ElementPlaces) (order : List ℕ) : Type 0 where
  pub few : length order ≤ 64
  pub each : (k : ℕ) → k < length order → NameAt f places (get_or order k 0)
