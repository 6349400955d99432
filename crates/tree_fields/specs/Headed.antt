-- Where the fields before the targets of a tree line end.
use Rattle.std.specs.Prelude.{ℕ, zero, suc, ◌+◌, ◌-◌, ◌≤◌, ◌<◌, ◌≡◌, [], length, take, drop, get_or}
use Rattle.meaning.specs.Text.{Bytes, cut, tab}
use Rattle.tree_fields.specs.declared.FieldEnds.{FieldEnds}

-- where field k ends
abbrev pub field_end : Bytes → ℕ → ℕ
field_end line zero = length (get_or (cut tab line) 0 [])
field_end line (suc k) = field_end line k + 1 + length (get_or (cut tab line) (suc k) [])

abbrev pub ends_of : Bytes → FieldEnds
ends_of line = record { letter = field_end line 0; depth = field_end line 1; name = field_end line 2; word = field_end line 3 }

-- field k stands between two places of a line
pub record FieldIs (line : Bytes) (k from to : ℕ) : Type 0 where
  pub ordered : from ≤ to
  pub inside : to ≤ length line
  pub is : take (to - from) (drop from line) ≡ get_or (cut tab line) k []

pub record Headed (line : Bytes) (e : FieldEnds) : Type 0 where
  pub letter : FieldIs line 0 0 e.letter
  pub depth : FieldIs line 1 (e.letter + 1) e.depth
  pub name : FieldIs line 2 (e.depth + 1) e.name
  pub word : FieldIs line 3 (e.name + 1) e.word
  pub targets : 5 ≤ length (cut tab line) → (e.word < length line) × (cut tab (drop (e.word + 1) line) ≡ drop 4 (cut tab line))
