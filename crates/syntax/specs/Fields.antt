-- What the first field and the word of a line stand for, as the code answers it.
use Rattle.std.specs.Prelude.{Bool, true, false, cond}
use Rattle.std.proofs.Math.Option.{Option, none, some}
use Rattle.meaning.specs.Text.{Bytes, same, lower}
use Rattle.meaning.specs.declared.Kind.{Kind}
use Rattle.meaning.specs.Model.{letter_text}
use Rattle.meaning.specs.Reading.{kind_of, attribute_letter, obligation_letter}
use Rattle.syntax.specs.declared.LineKind.{LineKind}

-- A name as it is compared: to the byte, or letter case aside
abbrev pub spelt : (exact : Bool) → Bytes → Bytes
spelt true n = n
spelt false n = lower n

-- A line by its first field
abbrev pub tree_kind : Option Kind → LineKind
tree_kind none = LineKind.Other
tree_kind (some k) = LineKind.Tree k

abbrev pub line_kind : Bytes → LineKind
line_kind f =
    cond (attribute_letter f) (LineKind.Attribute (same f (letter_text true)))
    (cond (obligation_letter f) LineKind.Obligation (tree_kind (kind_of f)))
