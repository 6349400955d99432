-- Trimming a file, on its bytes. Lines are counted from 0 here.
use Rattle.std.specs.Prelude.{ℕ, zero, suc, Bool, not, ◌&&◌, List, [], ◌∷◌, length, get_or}
use Rattle.std.proofs.Math.Option.{Option, none, some}
use Rattle.meaning.specs.Text.{Bytes, bytes, is_none, keep, without, front, counting, first_from, last_below, same, cut, join, newline, tab}
use Rattle.meaning.specs.Model.{Policy, space, Result, refused, given}
use Rattle.meaning.specs.Reading.{read}
use Rattle.meaning.specs.Deciding.{same_outcome, outcome}

-- what newlines part: behind the last newline of an accepted file stands an empty piece
abbrev pub lines : Bytes → List Bytes
lines f = cut newline f

-- the lines of an accepted file, without that piece
abbrev pub file_lines : Bytes → List Bytes
file_lines f = front (lines f)

abbrev pub field_of : ℕ → Bytes → Bytes
field_of i l = get_or (cut tab l) i []

abbrev pub rule_line : Bytes → Bool
rule_line l = same (field_of 0 l) (bytes "R")

-- line k is a rule's, its name, and all such lines
abbrev pub is_rule_line : Bytes → ℕ → Bool
is_rule_line f k = rule_line (get_or (lines f) k [])

abbrev pub name_at : Bytes → ℕ → Bytes
name_at f k = field_of 2 (get_or (lines f) k [])

abbrev pub rule_lines : Bytes → List ℕ
rule_lines f = keep (is_rule_line f) (counting 0 (length (lines f)))

-- To strike line k is to leave out its bytes with its newline
abbrev pub strike : ℕ → Bytes → Bytes
strike k f = join newline (without k (lines f))

-- The first request that gets another outcome from the second of two files than from the first. A refused file gives
-- none, and 0 stands for that: no rule's line is such (the laws)
abbrev pub first_changed : Result Policy → Result Policy → Option ℕ
first_changed (refused n m) q = some 0
first_changed (given p) (refused n m) = some 0
first_changed (given p) (given q) = first_from (λ n. not (same_outcome (outcome p n) (outcome q n))) 0 (space p.attributes)

-- The first request whose outcome changes without line k
unfoldable pub first_change : Bytes → ℕ → Option ℕ
first_change f k = first_changed (read f) (read (strike k f))

-- Needless: a rule's line without which the file decides alike
abbrev pub needless : Bytes → ℕ → Bool
needless f k = is_rule_line f k && is_none (first_change f k)

-- The next rule to strike: the last needless one
abbrev pub next_struck : Bytes → Option ℕ
next_struck f = last_below (needless f) (length (lines f))

-- The trimmed text, and the names of the rules in the order struck
pub record Trimmed : Type 0 where
  pub text : Bytes
  pub struck : List Bytes

abbrev pub struck_first : Bytes → Trimmed → Trimmed
struck_first n t = record { text = t.text; struck = n ∷ t.struck }

abbrev pub onward : Option ℕ → Bytes → (ℕ → Trimmed) → Trimmed
onward none f next = record { text = f; struck = [] }
onward (some k) f next = struck_first (name_at f k) (next k)

-- While there is one, the next rule is struck; a file has more lines than rules
abbrev pub trimming : ℕ → Bytes → Trimmed
trimming zero f = record { text = f; struck = [] }
trimming (suc n) f = onward (next_struck f) f (λ k. trimming n (strike k f))

unfoldable pub trimmed : Bytes → Trimmed
trimmed f = trimming (length (lines f)) f
