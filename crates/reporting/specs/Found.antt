-- What was found of a policy: a list for each thing that the report needs, by what stands at its places.
use Rattle.std.specs.Prelude.{ℕ, ◌≤◌, ◌<◌, ◌≡◌, Option, None, List, length, take, get_or, Bool}
use Rattle.meaning.specs.Text.{Bytes}
use Rattle.meaning.specs.declared.Decision.{Decision}
use Rattle.meaning.specs.declared.Element.{Element}
use Rattle.table.specs.declared.Row.{Row}
use Rattle.laws.specs.Found.{found}
use Rattle.table.specs.Tree.{parent_of}
use Rattle.outcomes.specs.Decided.{none_struck, decided_at}
use Rattle.trimming.specs.Decided.{Struck, shown_at, trimming_at}
use Rattle.rows.specs.Words.{applying_at}
use Rattle.segments.specs.Sizes.{size_at}
use Rattle.conflicts.specs.Pairs.{shows_at, Pairs}
use Rattle.layout.specs.declared.ElementPlaces.{ElementPlaces}

-- what striking gives, from there on
abbrev pub trimmed_at : Bytes → (places : List ElementPlaces) (table : List Row) → ℕ → (ℕ → Element → Bool) → ℕ → Struck
trimmed_at f places table n hit space = trimming_at f places table n hit space n none_struck

-- Of a table of n elements, which requests match an element's own target, and how many there are: what there is to say of each request
pub record SegmentsFound (table : List Row) (n : ℕ) (hit : ℕ → Element → Bool) (space : ℕ) (words sizes : List ℕ) (decided : List Decision) : Type 0 where
  -- the word of the elements that apply to it
  pub applying : (m : ℕ) → m < space → get_or words m 0 ≡ applying_at table n hit m
  -- the size of the segment whose first request it is, else 0
  pub sized : (m : ℕ) → m < space → get_or sizes m 0 ≡ size_at words space m
  -- its decision
  pub told : (m : ℕ) → m < space → get_or decided m Decision.Permit ≡ decided_at table n hit none_struck m

-- and of each pair of children
pub record ConflictsFound (table : List Row) (n : ℕ) (hit : ℕ → Element → Bool) (space : ℕ) (parents : List (Option ℕ)) (pairs : List (List ℕ)) : Type 0 where
  -- an element's parent
  pub parented : (j : ℕ) → j < n → get_or parents j None ≡ found (parent_of table j)
  -- the first request that shows the conflict of two children, at place k of row j, or the number of requests
  pub paired : Pairs parents (shows_at table none_struck n hit) n space pairs

-- the rules: those struck, in order, and the first request that needs each one kept; the first element is left
pub record RulesFound (f : Bytes) (places : List ElementPlaces) (table : List Row) (n : ℕ) (hit : ℕ → Element → Bool) (space : ℕ) (order : List ℕ) (shown : List (Option ℕ)) (count : ℕ) : Type 0 where
  pub struck : take count order ≡ (trimmed_at f places table n hit space).order
  pub counted : count ≡ length (trimmed_at f places table n hit space).order
  pub few : count ≤ n
  pub stays : get_or (trimmed_at f places table n hit space).flags 0 0 ≡ 0
  pub needed : (i : ℕ) → i < n → get_or shown i None ≡ found (shown_at f places table n hit space (trimmed_at f places table n hit space).flags i)
