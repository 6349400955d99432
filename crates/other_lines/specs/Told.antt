-- What tells a line that may be missing.
use Rattle.std.specs.Prelude.{ℕ, zero, suc, Option, Some, None}
use Rattle.std.proofs.Math.Option.{Option as Maybe, none, some}

-- a line, counted from 1: line 0 is told where none is another
abbrev pub line_told : Maybe ℕ → Option ℕ
line_told none = None
line_told (some zero) = None
line_told (some (suc n)) = Some (suc n)
