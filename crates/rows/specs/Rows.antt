-- Rows of bits: 64 words for each element, bit m % 64 of word m / 64 for request m.
use Rattle.std.specs.Prelude.{ℕ, ◌≤◌, ◌<◌, ◌≡◌, Bool, ◌&&◌, List, length, get_or}
use Rattle.meaning.specs.declared.Decision.{Decision}
use Rattle.meaning.specs.declared.Element.{Element}
use Rattle.meaning.specs.Deciding.{bit, applies}
use Rattle.table.specs.declared.Row.{Row}
use Rattle.table.specs.Rows.{element_at, Rows}
use Rattle.table.specs.Tree.{before}
use Rattle.table.specs.declared.Shape.{Shape}
use Rattle.table.specs.Shape.{hit_of}
use Rattle.matching.specs.Hits.{bit_of, Hits, ClearFrom}
use Rattle.blocks.specs.Bits.{Answers}
use Rattle.rows.specs.Words.{applies_at, gives_at}

-- the rows say which requests each element applies to, and on which it gives a decision
abbrev pub Applied : List Row → ℕ → (ℕ → Element → Bool) → ℕ → List (List ℕ) → Type 0
Applied t n hit space rows = (i m : ℕ) → i < n → m < space → bit_of rows i m ≡ applies_at t (hit m) i

abbrev pub Given : Decision → List Row → List ℕ → ℕ → (ℕ → Element → Bool) → ℕ → List (List ℕ) → Type 0
Given d t struck n hit space rows = (i m : ℕ) → i < n → m < space → bit_of rows i m ≡ gives_at d t struck n (hit m) i

-- of the bits that a row had, those stay on which element i applies, by the test of targets that the bits answer
abbrev pub Narrowed : List Row → List (List ℕ) → ℕ → ℕ → ℕ → List ℕ → List ℕ → Type 0
Narrowed t hits n blocks i old new =
    (b v : ℕ) (hit : Element → Bool) → b < blocks → Answers t hits n b v hit → bit (get_or new b 0) v ≡ (bit (get_or old b 0) v && applies hit (before t i) (element_at t i))

-- the bits of a row say to which requests element i applies
abbrev pub AppliedRow : List Row → List (List ℕ) → ℕ → ℕ → ℕ → List ℕ → Type 0
AppliedRow t hits n blocks i row = (b v : ℕ) (hit : Element → Bool) → b < blocks → v < 64 → Answers t hits n b v hit → bit (get_or row b 0) v ≡ applies hit (before t i) (element_at t i)

-- the table has n rows, and `hits` a row of words for each of at most 64 elements
pub record Rowed (t : List Row) (hits : List (List ℕ)) (n blocks : ℕ) : Type 0 where
  pub rows : Rows t n
  pub few : n ≤ 64
  pub words : n ≤ length hits
  pub most : blocks ≤ 64

-- a table, its shape, and which requests match each element's own target, and nothing else
pub record Marked (t : List Row) (s : Shape) (hits : List (List ℕ)) : Type 0 where
  pub rows : Rows t s.n
  pub few : s.n ≤ 64
  pub small : s.space ≤ 4096
  pub room : 64 ≤ length hits
  pub each : Hits t s.n (hit_of s) s.space hits
  pub clear : ClearFrom s.n s.space hits
