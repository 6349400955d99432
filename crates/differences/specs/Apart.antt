-- What requests get under two lists of flags, over a file, its places and a table of elements: an element whose flag is not 0 is struck.
use Rattle.std.specs.Prelude.{ℕ, ◌/◌, ◌%◌, ◌<◌, ◌≡◌, Bool, false, not, List, get_or}
use Rattle.meaning.specs.Text.{Bytes}
use Rattle.meaning.specs.Deciding.{bit, same_outcome}
use Rattle.meaning.specs.declared.Element.{Element}
use Rattle.table.specs.declared.Row.{Row}
use Rattle.table.specs.Rows.{element_at}
use Rattle.table.specs.declared.Shape.{Shape}
use Rattle.table.specs.Shape.{hit_of}
use Rattle.matching.specs.Hits.{HitsLaid}
use Rattle.table.specs.Words.{word_in}
use Rattle.blocks.specs.declared.Effects.{Effects}
use Rattle.outcomes.specs.PolicyTable.{PolicyTable, OutcomesLaid}
use Rattle.layout.specs.declared.ElementPlaces.{ElementPlaces}
use Rattle.layout.specs.Places.{Obliged}
use Rattle.obligations.specs.Given.{outcome_left}

-- request m gets another decision, or other obligations, under `struck` than under `before`
unfoldable pub apart : Bytes → (places : List ElementPlaces) (t : List Row) → ℕ → (hit : ℕ → Element → Bool) → (before struck : List ℕ) → ℕ → Bool
apart f places t n hit before struck m = not (same_outcome (outcome_left (hit m) f t places before n) (outcome_left (hit m) f t places struck n))

-- the elements' obligations lie in the file, only rules are struck by either list of flags, and the decisions laid down are those under `before`
pub record Compared (f : Bytes) (places : List ElementPlaces) (t : List Row) (before struck : List ℕ) (hits : List (List ℕ)) (outcomes : List Effects) (s : Shape) : Type 0 where
  pub obliged : (i : ℕ) → i < s.n → Obliged f places i
  pub ready_before : PolicyTable t before s
  pub ready : PolicyTable t struck s
  pub matched : HitsLaid t hits s
  pub holds : OutcomesLaid t before outcomes s

-- a request of the block whose bit is not set gets the same under both
abbrev pub Suspects : Bytes → (places : List ElementPlaces) (t : List Row) (before struck : List ℕ) → Shape → (block on : ℕ) → Type 0
Suspects f places t before struck s block on =
    (m : ℕ) → m < s.space → m / 64 ≡ block → bit on (m % 64) ≡ false → apart f places t s.n (hit_of s) before struck m ≡ false

-- a request that matches no element struck gets the same under both
abbrev pub Untouched : Bytes → (places : List ElementPlaces) (t : List Row) (before struck : List ℕ) → Shape → Type 0
Untouched f places t before struck s =
    (m : ℕ) → m < s.space → ((i : ℕ) → i < s.n → (get_or struck i 0 ≡ 0 → ⊥) → hit_of s m (element_at t i) ≡ false) → apart f places t s.n (hit_of s) before struck m ≡ false

-- where a bit of the word is not set, no element struck has that bit in the block
abbrev pub Touched : (struck : List ℕ) (hits : List (List ℕ)) → (n block word : ℕ) → Type 0
Touched struck hits n block word = (v i : ℕ) → bit word v ≡ false → i < n → (get_or struck i 0 ≡ 0 → ⊥) → bit (word_in hits i block) v ≡ false
