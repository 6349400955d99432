-- The obligations that come with a decision, by a mark for each element of a file.
use Rattle.std.specs.Prelude.{ℕ, zero, suc, ◌+◌, ◌≤◌, ◌<◌, Bool, false, not, cond, ◌||◌, List, [], ◌∷◌, eqb, length, get_or}
use Rattle.meaning.specs.declared.Decision.{Decision}
use Rattle.meaning.specs.declared.Obligation.{Obligation}
use Rattle.meaning.specs.declared.Element.{Element}
use Rattle.meaning.specs.Text.{Bytes, keep, gathered, counting, same, line}
use Rattle.meaning.specs.Model.{obligation_name, word_text, decision_text}
use Rattle.meaning.specs.Deciding.{Outcome, bit, first_decision}
use Rattle.table.specs.declared.Row.{Row}
use Rattle.table.specs.Tree.{left}
use Rattle.chains.specs.Chain.{chained}
use Rattle.layout.specs.declared.ElementPlaces.{ElementPlaces}
use Rattle.layout.specs.Places.{obligation_end, obligation_at, obligations_in, element_in, Obliged}

-- the obligations whose word equals a decision: names with a newline after each
abbrev pub spelling : Decision → List Obligation → Bytes
spelling d os = gathered (λ o. line (obligation_name o ∷ [])) (keep (λ o. same (word_text o.word) (decision_text d)) os)

-- those of place k of element i; and those of n elements that are marked, in file order
abbrev pub slot_text : Decision → Bytes → List ElementPlaces → (i k : ℕ) → Bytes
slot_text d f places i k = cond (eqb (obligation_end places i k) 0) [] (spelling d (obligation_at f places i k ∷ []))

abbrev pub own_text : Decision → (ℕ → Bool) → Bytes → List ElementPlaces → ℕ → Bytes
own_text d marks f places i = cond (marks i) (spelling d (obligations_in f places i)) []

unfoldable pub given_text : Decision → (ℕ → Bool) → Bytes → List ElementPlaces → ℕ → Bytes
given_text d marks f places n = gathered (own_text d marks f places) (counting 0 n)

-- the effect that permits, or denies; and the marks that are bit v of the words
abbrev pub effect : (permit : Bool) → Decision
effect permit = cond permit Decision.Permit Decision.Deny

abbrev pub marks_in : List ℕ → ℕ → ℕ → Bool
marks_in given v i = bit (get_or given i 0) v

-- one of n elements has an obligation
unfoldable pub any_obliged : List ElementPlaces → ℕ → Bool
any_obliged places zero = false
any_obliged places (suc n) = not (eqb (obligation_end places n 0) 0) || any_obliged places n

-- the elements of n places from place i on that flags leave, with their names and obligations
unfoldable pub left_elements : Bytes → (table : List Row) (places : List ElementPlaces) (struck : List ℕ) → (i n : ℕ) → List Element
left_elements f table places struck i zero = []
left_elements f table places struck i (suc n) =
    let later = left_elements f table places struck (i + 1) n in
    cond (eqb (get_or struck i 0) 0) (element_in f table places i ∷ later) later

-- what a request gets from them, by the test of an element's own target
abbrev pub outcome_left : (Element → Bool) → Bytes → (table : List Row) (places : List ElementPlaces) (struck : List ℕ) → ℕ → Outcome
outcome_left hit f table places struck n =
    let d = first_decision hit (left table struck 0 n) in
    record { decision = d; obligations = given_text d (chained hit table struck n) f places n }

-- at most 64 elements whose obligations lie in the file, a word for each, and a bit of it
pub record Giving (f : List ℕ) (places : List ElementPlaces) (given : List ℕ) (n v : ℕ) : Type 0 where
  pub few : n ≤ 64
  pub each : (i : ℕ) → i < n → Obliged f places i
  pub words : n ≤ length given
  pub place : v < 64
