-- Trimming rule by rule: the next rule shown, and a rule struck by its name.
use Rattle.std.specs.Prelude.{ℕ, ◌&&◌, length}
use Rattle.std.proofs.Math.Option.{Option, none, some}
use Rattle.meaning.specs.Text.{Bytes, if_some, first_from, same_name}
use Rattle.meaning.specs.Model.{Result, refused, given, ◌then◌, fitted}
use Rattle.meaning.specs.Reading.{read}
use Rattle.meaning.specs.Trimming.{lines, name_at, strike, needless, next_struck}

-- The name, with no newline, of the rule that trimming would strike next; no byte where there is none
unfoldable pub next_name : Bytes → Bytes
next_name f = if_some (next_struck f) (name_at f)

-- The line of the needless rule that has a name
abbrev pub needless_named : Bytes → Bytes → Option ℕ
needless_named f name = first_from (λ k. needless f k && same_name name (name_at f k)) 0 (length (lines f))

-- The file without that line; 15: the name isn't that of a needless rule
abbrev pub without_line : Bytes → Option ℕ → Result Bytes
without_line f none = refused 15 0
without_line f (some k) = given (strike k f)

unfoldable pub strike_named : Bytes → Bytes → Result Bytes
strike_named f name = without_line f (needless_named f name)

-- The operations: that name, and that text, for a buffer of so many bytes
unfoldable pub next_rule_file : ℕ → Bytes → Result Bytes
next_rule_file room f = read f then λ p. fitted room (next_name f)

unfoldable pub strike_file : ℕ → Bytes → Bytes → Result Bytes
strike_file room f name = read f then λ p. strike_named f name then fitted room
