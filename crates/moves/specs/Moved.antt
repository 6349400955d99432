-- A rule that is struck, against the same rule left: whether the element over it decides otherwise.
use Rattle.std.specs.Prelude.{ℕ, suc, ◌≤◌, ◌<◌, ◌≡◌, Bool, not, cond, ◌&&◌, List, [], get_or, set}
use Rattle.meaning.specs.declared.Decision.TheVariants.{NotApplicable}
use Rattle.meaning.specs.declared.Word.{Word}
use Rattle.meaning.specs.declared.Element.{Element}
use Rattle.meaning.specs.Deciding.{Reply as ChildReply, bit, is, combined}
use Rattle.table.specs.declared.Row.{Row}
use Rattle.table.specs.Rows.{word_at, algorithm_at, depth_of, word_number}
use Rattle.table.specs.Tree.{Leaves, RulesStruck, Over}
use Rattle.table.specs.Words.{word_in}
use Rattle.decisions.specs.Replies.{step_of, reply_at}
use Rattle.blocks.specs.declared.Replies.{Replies}
use Rattle.blocks.specs.Bits.{reply_bit}

-- what a rule with the word w gives, by whether it matches
abbrev pub effect_reply : Word → Bool → ChildReply
effect_reply w b = record { matched = b; decision = cond b (combined w []) NotApplicable }

-- the flags with the rule left again
abbrev pub kept : List ℕ → ℕ → List ℕ
kept struck rule = set struck rule 0

-- element `up` gives another decision with the rule than without it
unfoldable pub moved_at : (Element → Bool) → List Row → List ℕ → ℕ → ℕ → ℕ → Bool
moved_at hit t struck n up rule = not (is (reply_at hit t (kept struck rule) n up).decision (reply_at hit t struck n up).decision)

-- element `rule` is a child of `up`, which looks at its children's decisions alone
pub record Under (t : List Row) (up rule : ℕ) : Type 0 where
  pub above : Over t up rule
  pub earlier : up < rule
  pub one_deeper : depth_of t rule ≡ suc (depth_of t up)
  pub group : 2 ≤ word_number t up
  pub decisive : word_number t up < 5

-- and a rule whose flag is set, in a table whose rules have no children and whose other flags are set for rules alone
pub record Child (t : List Row) (struck : List ℕ) (n up rule : ℕ) : Type 0 where
  pub under : Under t up rule
  pub inside : rule < n
  pub effect : word_number t rule < 2
  pub leaves : Leaves t n
  pub rules : RulesStruck t (kept struck rule) n
  pub flag : get_or struck rule 0 ≡ 1

-- `own` is what the rule gives where it and `up` match
pub record Own (t : List Row) (hits : List (List ℕ)) (n block up rule : ℕ) (own : Replies) : Type 0 where
  pub replies : (v : ℕ) → reply_bit own v ≡ effect_reply (word_at (word_number t rule)) (bit own.matched v)
  pub reach : (v : ℕ) → bit own.matched v ≡ (bit (word_in hits rule block) v && bit (word_in hits up block) v)

-- from what the children passed give with the rule and without it, x and y, to the same behind the child c: p and q
abbrev pub Sided : ℕ → Bool → (x y c own p q : ChildReply) → Type 0
Sided a earlier x y c own p q = (q ≡ step_of (algorithm_at a) y c) × (p ≡ cond earlier (step_of (algorithm_at a) q own) (step_of (algorithm_at a) x c))
