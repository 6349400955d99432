-- What the functions ask of the table, the flags and the decisions that are lent.
use Rattle.std.specs.Prelude.{ℕ, ◌*◌, ◌≤◌, ◌<◌, ◌≡◌, List, length, drop, get_or}
use Rattle.meaning.specs.declared.Decision.TheVariants.{NotApplicable}
use Rattle.table.specs.declared.Row.{Row}
use Rattle.table.specs.Tree.{Leaves, RulesStruck}
use Rattle.table.specs.declared.Shape.{Shape}
use Rattle.table.specs.Rows.{Rows, word_number}
use Rattle.table.specs.Shape.{Counted, hit_of}
use Rattle.matching.specs.Hits.{words_of}
use Rattle.blocks.specs.declared.Effects.{Effects}
use Rattle.outcomes.specs.Decided.{outcome_at, decided_at}

-- a table of 1 to 64 elements whose first is no rule and whose rules have no children, a flag for each, set for rules alone, and at most 4,096 requests
pub record PolicyTable (t : List Row) (struck : List ℕ) (s : Shape) : Type 0 where
  pub rows : Rows t s.n
  pub flags : s.n ≤ length struck
  pub some : 1 ≤ s.n
  pub few : s.n ≤ 64
  pub root : 2 ≤ word_number t 0
  pub stays : get_or struck 0 0 ≡ 0
  pub leaves : Leaves t s.n
  pub rules : RulesStruck t struck s.n
  pub counted : Counted s
  pub positive : 0 < s.space
  pub small : s.space ≤ 4096

-- the effects that tell what each request gets under these flags, block by block
pub record OutcomesLaid (t : List Row) (struck : List ℕ) (outcomes : List Effects) (s : Shape) : Type 0 where
  pub enough : 64 ≤ length outcomes
  pub outcomes_are : (m : ℕ) → m < s.space → outcome_at outcomes m ≡ decided_at t s.n (hit_of s) struck m

-- what laying down the effects on `space` requests leaves besides: no bit behind them tells anything, and what stands behind their blocks is as it was
pub record OutcomesRest (space : ℕ) (old new : List Effects) : Type 0 where
  pub same_length : length new ≡ length old
  pub clear : (m : ℕ) → space ≤ m → m < 64 * words_of space → outcome_at new m ≡ NotApplicable
  pub behind : drop (words_of space) new ≡ drop (words_of space) old
