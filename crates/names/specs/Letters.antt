-- Letters in either case.
use Rattle.std.specs.Prelude.{ℕ}
use Rattle.std.specs.Int.Bits.{bit_or}

-- a byte with the bit set that small letters have and capitals lack: where these differ, so do the letters; the converse fails, as for `@` and the backquote
abbrev pub caseless : ℕ → ℕ
caseless b = bit_or b 32
