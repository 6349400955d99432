-- What is asked where a rule is tried.
use Rattle.std.specs.Prelude.{ℕ, ◌<◌, ◌≡◌, Bool, true, false, List, get_or, Option, Some, None, IfSome}
use Rattle.std.proofs.Math.Option.{none}
use Rattle.meaning.specs.Text.{Bytes, first_from}
use Rattle.meaning.specs.declared.Element.{Element}
use Rattle.meaning.specs.Deciding.{bit}
use Rattle.table.specs.declared.Row.{Row}
use Rattle.table.specs.declared.Shape.{Shape}
use Rattle.table.specs.Shape.{hit_of}
use Rattle.table.specs.Tree.{rule_left}
use Rattle.matching.specs.Hits.{HitsLaid}
use Rattle.table.specs.Words.{word_in}
use Rattle.blocks.specs.declared.Effects.{Effects}
use Rattle.blocks.specs.Bits.{Answers}
use Rattle.moves.specs.Moved.{kept, moved_at, Under}
use Rattle.outcomes.specs.PolicyTable.{PolicyTable, OutcomesLaid}
use Rattle.trials.specs.declared.Tried.{Tried}
use Rattle.trials.specs.declared.Tried.TheVariants.{Other, Needless, Needed}
use Rattle.trials.specs.Decided.{changes_at, needless_at}
use Rattle.trials.specs.Steady.{Aside, Steady}
use Rattle.layout.specs.declared.ElementPlaces.{ElementPlaces}

-- element `up`, if there is one, has the rule as a child and looks at its children's decisions alone
abbrev pub Grouped : List Row → ℕ → Option ℕ → Type 0
Grouped t rule up = IfSome up (λ i. Under t i rule)

-- a file, its table and the flags, which requests match, and the decisions laid down: what is asked where rules are tried
pub record Laid (f : Bytes) (places : List ElementPlaces) (t : List Row) (struck : List ℕ) (hits : List (List ℕ)) (outcomes : List Effects) (s : Shape) : Type 0 where
  pub steady : Steady f places t s
  pub ready : PolicyTable t struck s
  pub matched : HitsLaid t hits s
  pub holds : OutcomesLaid t struck outcomes s

-- rule `rule` is tried by its flag: the decisions laid down are those with it
pub record Trial (f : Bytes) (places : List ElementPlaces) (t : List Row) (struck : List ℕ) (hits : List (List ℕ)) (outcomes : List Effects) (s : Shape) (rule : ℕ) : Type 0 where
  pub steady : Steady f places t s
  pub aside : Aside t struck s rule
  pub matched : HitsLaid t hits s
  pub holds : OutcomesLaid t (kept struck rule) outcomes s

-- each bit of the word says whether the rule moves what `up` decides; where there is no such element, whether it matches
abbrev pub Reached : (t : List Row) (struck : List ℕ) (hits : List (List ℕ)) (n block : ℕ) → Option ℕ → (rule word : ℕ) → Type 0
Reached t struck hits n block (Some up) rule word = (v : ℕ) (hit : Element → Bool) → Answers t hits n block v hit → bit word v ≡ moved_at hit t struck n up rule
Reached t struck hits n block None rule word = word ≡ word_in hits rule block

-- a request that passes the test, if one does
abbrev pub Tries : (test : ℕ → Bool) → ℕ → Option ℕ → Type 0
Tries test space None = first_from test 0 space ≡ none
Tries test space (Some m) = (m < space) × (test m ≡ true)

-- what trying element i tells: no rule that is left, a needless one, or one that request m shows needed
abbrev pub Tells : Bytes → (places : List ElementPlaces) (t : List Row) (struck : List ℕ) → Shape → (i : ℕ) → Tried → Type 0
Tells f places t struck s i Other = rule_left t struck i ≡ false
Tells f places t struck s i Needless = needless_at f places t s.n (hit_of s) s.space struck i ≡ true
Tells f places t struck s i (Needed m) =
    (needless_at f places t s.n (hit_of s) s.space struck i ≡ false) × (m < s.space) × (changes_at f places t s.n (hit_of s) struck i m ≡ true)

-- the same n flags
abbrev pub Copied : List ℕ → ℕ → List ℕ → Type 0
Copied struck n copy = (i : ℕ) → i < n → get_or copy i 0 ≡ get_or struck i 0
