-- Accepting a proposal: what is sound, and what each refusal tells. That the trimmed text of every file is accepted is said of the
-- operations too, in `jogimaduve`, proofs/Accepting.
use Rattle.std.specs.Prelude.{◌≡◌, ℕ, suc, ◌<◌, true, false, List, [], ◌∷◌, ◌++◌, length}
use Rattle.meaning.specs.Text.{Bytes, all}
use Rattle.meaning.specs.Model.{Policy}
use Rattle.meaning.specs.Trimming.{rule_line, file_lines}
use Rattle.meaning.specs.Claims.Trimming.{Alike, Needless, FirstChange}

-- The proposal's lines are the original's up to a rest, with only rule lines left out
pub data LeavesOut : (original proposal rest : List Bytes) → Type 0 where
  up_to : (rest : List Bytes) → LeavesOut rest [] rest
  kept : (l : Bytes) (os ls rest : List Bytes) → LeavesOut os ls rest → LeavesOut (l ∷ os) (l ∷ ls) rest
  left_out : (o : Bytes) (os ls rest : List Bytes) → rule_line o ≡ true → LeavesOut os ls rest → LeavesOut (o ∷ os) ls rest

-- A proposal g, of policy q, that is sound for an original f, of policy p
pub record Sound (f : Bytes) (p : Policy) (g : Bytes) (q : Policy) : Type 0 where
  pub leaves_out : LeavesOut (file_lines f) (file_lines g) []
  pub alike : Alike p q
  pub none_needless : (k : ℕ) → Needless g k → ⊥

-- some first lines of the original, with only rule lines left out
abbrev pub Match : (original proposal : List Bytes) → Type 0
Match os ls = (rest : List Bytes) × LeavesOut os ls rest

-- Line n is the first that isn't the next original line: those before it match, and with it they do not, whatever rule lines are
-- left out
pub record OtherLine (os ls : List Bytes) (n : ℕ) : Type 0 where
  pub before : List Bytes
  pub other : Bytes
  pub after : List Bytes
  pub are : ls ≡ before ++ (other ∷ after)
  pub place : n ≡ suc (length before)
  pub matching : Match os before
  pub not_matching : Match os (before ++ (other ∷ [])) → ⊥

-- All lines match, and a non-rule line is left over, whatever rule lines are left out
pub record LeftOver (os ls : List Bytes) : Type 0 where
  pub matching : Match os ls
  pub left_over : (rest : List Bytes) → LeavesOut os ls rest → all rule_line rest ≡ false

-- What is refused, in this order, with number and second number
pub data Unsound (f : Bytes) (p : Policy) (g : Bytes) (q : Policy) : ℕ → ℕ → Type 0 where
  other_line : (n : ℕ) → OtherLine (file_lines f) (file_lines g) n → Unsound f p g q 16 n
  line_left_over : LeftOver (file_lines f) (file_lines g) → Unsound f p g q 16 0
  other_outcome : (n : ℕ) → LeavesOut (file_lines f) (file_lines g) [] → FirstChange p q n → Unsound f p g q 17 n
  needless_rule : (k : ℕ) → LeavesOut (file_lines f) (file_lines g) [] → Alike p q → Needless g k → ((j : ℕ) → j < k → Needless g j → ⊥) → Unsound f p g q 18 (suc k)
