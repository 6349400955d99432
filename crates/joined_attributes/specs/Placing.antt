-- Where attributes stand among those of a file.
use Rattle.std.specs.Prelude.{ℕ, List, map, length}
use Rattle.meaning.specs.Model.{Attribute, padded}
use Rattle.meaning.specs.Joining.{place_in}
use Rattle.joined_attributes.specs.declared.Placing.{Placing}

-- so many places, and zeros behind them
abbrev pub listed : List ℕ → Placing
listed ns = record { places = padded 12 ns; len = length ns }

-- the place of each attribute's name among a file's own
abbrev pub places_in : (own attrs : List Attribute) → List ℕ
places_in own attrs = map (λ c. place_in own c.name) attrs
