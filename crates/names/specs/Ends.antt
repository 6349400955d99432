-- The last bytes of texts.
use Rattle.std.specs.Prelude.{ℕ, ◌-◌, Bool, false, not, cond, eqb, length, get_or}
use Rattle.meaning.specs.Text.{Bytes}
use Rattle.names.specs.Letters.{caseless}

-- what ends at a place of a text has another last byte than the name, the bit of letter case aside; a name without bytes has none
abbrev pub ends_otherwise : Bytes → ℕ → Bytes → Bool
ends_otherwise s end name = cond (eqb (length name) 0) false (not (eqb (caseless (get_or name (length name - 1) 0)) (caseless (get_or s (end - 1) 0))))
