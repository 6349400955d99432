-- A text that is shortened in place.
use Rattle.std.specs.Prelude.{ℕ, ◌+◌, ◌-◌, ◌++◌, length, take, drop}
use Rattle.meaning.specs.Text.{Bytes}

-- without the bytes from start up to end: those below, those behind moved down, and where these ended what stood there
abbrev pub closed : Bytes → (start end : ℕ) → Bytes
closed t start end = take start t ++ drop end t ++ drop (start + (length t - end)) t
