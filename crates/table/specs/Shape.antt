-- What a policy's shape says of its requests.
use Rattle.std.specs.Prelude.{ℕ, ◌+◌, ◌^◌, ◌≤◌, ◌<◌, ◌≡◌, Bool, true, false, List, take, get_or}
use Rattle.meaning.specs.declared.Element.{Element}
use Rattle.meaning.specs.Model.{product}
use Rattle.meaning.specs.Deciding.{request_of, matches}
use Rattle.table.specs.declared.Shape.{Shape}

-- how many choices each attribute has, and at which a request has sets of values
abbrev pub counts_of : Shape → List ℕ
counts_of s = take s.len s.counts

abbrev pub severals_of : Shape → List Bool
severals_of s = take s.len s.several

-- as many as there are non-empty sets of some values
abbrev pub CountsSets : ℕ → Type 0
CountsSets count = (values : ℕ) × (count + 1 ≡ 2 ^ values)

-- there are at most six, and they make the number of requests
pub record Counted (s : Shape) : Type 0 where
  pub attributes : s.len ≤ 6
  pub sets : (i : ℕ) → i < s.len → get_or s.several i false ≡ true → CountsSets (get_or s.counts i 0)
  pub all : product (counts_of s) ≡ s.space

-- request number m matches an element's own target
unfoldable pub hit_of : Shape → ℕ → Element → Bool
hit_of s m = matches (severals_of s) (request_of (counts_of s) m)
