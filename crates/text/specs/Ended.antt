-- A text whose lines are ended.
use Rattle.std.specs.Prelude.{◌≡◌, [], ◌∷◌, ◌++◌}
use Rattle.meaning.specs.Text.{Bytes}
use Rattle.meaning.specs.Trimming.{lines, file_lines}

-- nothing stands behind the last newline
abbrev pub Ended : Bytes → Type 0
Ended f = lines f ≡ file_lines f ++ ([] ∷ [])
