-- The masks of a tree line.
use Rattle.std.specs.Prelude.{ℕ, cond, List, Option, Some, None}
use Rattle.meaning.specs.Text.{Bytes}
use Rattle.meaning.specs.Model.{Attribute, padded}
use Rattle.meaning.specs.Reading.{masks_of, bad_masks}

-- the masks of a line that has these targets, if none of them is bad
abbrev pub masks_in : List Attribute → List Bytes → Option (List ℕ)
masks_in attrs ts =
    let masks = padded 6 (masks_of attrs ts) in
    cond (bad_masks attrs masks) None (Some masks)
