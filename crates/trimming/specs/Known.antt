-- Rules that are known to be needed, by a request that gets another decision, or other obligations, without them.
use Rattle.std.specs.Prelude.{ℕ, ◌<◌, ◌≡◌, true, false, List, length, get_or}
use Rattle.meaning.specs.Text.{Bytes}
use Rattle.table.specs.declared.Row.{Row}
use Rattle.table.specs.Tree.{rule_left}
use Rattle.table.specs.declared.Shape.{Shape}
use Rattle.table.specs.Shape.{hit_of}
use Rattle.matching.specs.Hits.{bit_of}
use Rattle.trimming.specs.Decided.{changes_at}
use Rattle.layout.specs.declared.ElementPlaces.{ElementPlaces}
use Rattle.trimming.specs.declared.Hint.{Hint}

-- the hint of an element; behind them nothing is known
abbrev pub hint_at : List Hint → ℕ → Hint
hint_at hints i = get_or hints i (record { request = 0; known = false })

-- an element that is known
abbrev pub IsKnown : List Hint → ℕ → Type 0
IsKnown hints i = (hint_at hints i).known ≡ true

-- the hints of what is known are requests
abbrev pub HintsFit : ℕ → List Hint → Type 0
HintsFit n hints = (i : ℕ) → i < n → IsKnown hints i → (hint_at hints i).request < 4096

-- each rule that is known, and left, is shown needed by its hint
abbrev pub Known : Bytes → (places : List ElementPlaces) (t : List Row) → Shape → (struck : List ℕ) → List Hint → Type 0
Known f places t s struck hints =
    (i : ℕ) → i < s.n → IsKnown hints i
    → ((hint_at hints i).request < s.space) × (rule_left t struck i ≡ true → changes_at f places t s.n (hit_of s) struck i (hint_at hints i).request ≡ true)

-- what is still known was known, by the same request, which does not match the rule
pub record Forgets (hits : List (List ℕ)) (n rule : ℕ) (hints after : List Hint) : Type 0 where
  pub same_length : length after ≡ length hints
  pub still : (i : ℕ) → i < n → IsKnown after i → IsKnown hints i × ((hint_at after i).request ≡ (hint_at hints i).request) × (bit_of hits rule (hint_at hints i).request ≡ false)
