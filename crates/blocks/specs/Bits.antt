-- What the words of a block say of one request: its bit of each.
use Rattle.std.specs.Prelude.{ℕ, ◌≤◌, ◌<◌, ◌≡◌, Bool, true, false, List, length}
use Rattle.meaning.specs.declared.Decision.{Decision}
use Rattle.meaning.specs.declared.Decision.TheVariants.{Permit, Deny, NotApplicable, Indeterminate}
use Rattle.meaning.specs.declared.Element.{Element}
use Rattle.meaning.specs.Deciding.{Reply as ChildReply, bit}
use Rattle.table.specs.declared.Row.{Row}
use Rattle.table.specs.Rows.{element_at, Rows}
use Rattle.table.specs.Words.{word_in}
use Rattle.blocks.specs.declared.Effects.{Effects}
use Rattle.blocks.specs.declared.Replies.{Replies}

-- a decision by two bits, permitted and denied
abbrev pub decision_by : Bool → Bool → Decision
decision_by true true = Indeterminate
decision_by true false = Permit
decision_by false true = Deny
decision_by false false = NotApplicable

abbrev pub decision_bit : Effects → ℕ → Decision
decision_bit e v = decision_by (bit e.permits v) (bit e.denies v)

abbrev pub reply_bit : Replies → ℕ → ChildReply
reply_bit r v = record { matched = bit r.matched v; decision = decision_bit r.given v }

-- bit v of the block's words, one for each element, answers this test of targets
abbrev pub Answers : List Row → List (List ℕ) → ℕ → ℕ → ℕ → (Element → Bool) → Type 0
Answers t hits n block v hit = (i : ℕ) → i < n → bit (word_in hits i block) v ≡ hit (element_at t i)

-- a table of n elements, a flag and a row of words for each, and one of at most 64 blocks
pub record Fits (t : List Row) (struck : List ℕ) (hits : List (List ℕ)) (n block : ℕ) : Type 0 where
  pub rows : Rows t n
  pub flags : n ≤ length struck
  pub words : n ≤ length hits
  pub few : n ≤ 64
  pub within : block < 64

-- bit r is set, and none below it
pub record Lowest (word r : ℕ) : Type 0 where
  pub small : r < 64
  pub set : bit word r ≡ true
  pub none_below : (v : ℕ) → v < r → bit word v ≡ false
