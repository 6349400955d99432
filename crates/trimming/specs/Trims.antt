-- What striking while there is one leaves in the flags and in the list of places struck.
use Rattle.std.specs.Prelude.{ℕ, ◌≡◌, List, ◌++◌, length, drop}
use Rattle.meaning.specs.Text.{Bytes}
use Rattle.table.specs.declared.Row.{Row}
use Rattle.table.specs.declared.Shape.{Shape}
use Rattle.table.specs.Shape.{hit_of}
use Rattle.blocks.specs.declared.Effects.{Effects}
use Rattle.outcomes.specs.PolicyTable.{PolicyTable, OutcomesLaid}
use Rattle.trimming.specs.Decided.{trimming_at}
use Rattle.layout.specs.declared.ElementPlaces.{ElementPlaces}

-- from the flags `struck` to `flags`, the `count` places struck laid over `old`; what was asked of the flags holds again
pub record Trims (f : Bytes) (places : List ElementPlaces) (t : List Row) (outcomes : List Effects) (s : Shape) (struck flags old order : List ℕ) (count : ℕ) : Type 0 where
  pub flags_are : flags ≡ (trimming_at f places t s.n (hit_of s) s.space s.n struck).flags
  pub order_is : order ≡ (trimming_at f places t s.n (hit_of s) s.space s.n struck).order ++ drop count old
  pub count_is : count ≡ length (trimming_at f places t s.n (hit_of s) s.space s.n struck).order
  pub ready : PolicyTable t flags s
  pub holds : OutcomesLaid t flags outcomes s
