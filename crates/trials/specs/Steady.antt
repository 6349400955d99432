-- What is asked of a policy's file, so that a rule changes nothing where it moves nothing.
use Rattle.std.specs.Prelude.{ℕ, ◌<◌, ◌≡◌, false, List, get_or}
use Rattle.meaning.specs.Text.{Bytes}
use Rattle.table.specs.declared.Row.{Row}
use Rattle.table.specs.Rows.{element_at, word_number}
use Rattle.table.specs.declared.Shape.{Shape}
use Rattle.table.specs.Shape.{hit_of}
use Rattle.moves.specs.Moved.{kept, moved_at, Under}
use Rattle.outcomes.specs.PolicyTable.{PolicyTable}
use Rattle.layout.specs.declared.ElementPlaces.{ElementPlaces}
use Rattle.layout.specs.Places.{Obliged}
use Rattle.obligations.specs.Given.{outcome_left}

-- a rule is struck, and only rules are, with it or without it
pub record Aside (t : List Row) (struck : List ℕ) (s : Shape) (rule : ℕ) : Type 0 where
  pub ready : PolicyTable t struck s
  pub before : PolicyTable t (kept struck rule) s
  pub element : rule < s.n
  pub effect : word_number t rule < 2
  pub flag : get_or struck rule 0 ≡ 1

-- request m gets with the rule what it gets without it
abbrev pub Unchanged : Bytes → (places : List ElementPlaces) (t : List Row) (struck : List ℕ) → Shape → (rule m : ℕ) → Type 0
Unchanged f places t struck s rule m = outcome_left (hit_of s m) f t places (kept struck rule) s.n ≡ outcome_left (hit_of s m) f t places struck s.n

-- the elements' obligations lie in the file; a rule changes nothing where the element over it decides alike without it, and nothing where it does not match
pub record Steady (f : Bytes) (places : List ElementPlaces) (t : List Row) (s : Shape) : Type 0 where
  pub obliged : (i : ℕ) → i < s.n → Obliged f places i
  pub unmoved : (struck : List ℕ) (rule up : ℕ) → Aside t struck s rule → Under t up rule → (m : ℕ) → m < s.space → moved_at (hit_of s m) t struck s.n up rule ≡ false → Unchanged f places t struck s rule m
  pub unmatched : (struck : List ℕ) (rule : ℕ) → Aside t struck s rule → (m : ℕ) → m < s.space → hit_of s m (element_at t rule) ≡ false → Unchanged f places t struck s rule m
