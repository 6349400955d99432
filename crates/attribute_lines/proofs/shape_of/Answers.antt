-- `shape_of` meets its contract: too few fields, or a kind by the first field.
use mathlib.Core.Path.{ap, ◌∙◌}
use native.Mathlib.Omega.{arith}
use borrow.Author.Tests.{lt-ltb, le-ltb}
use Rattle.syntax.specs.Fields.{line_kind}
use Rattle.attribute_lines.proofs.shape_of.Goals as goal

pub returns-then-fields-lt3 : goal.returns-then-fields-lt3
returns-then-fields-lt3 c =
    rw (← c.requires, lt-ltb c.args.fields 3 c.if-fields-lt3.true)

pub returns : goal.returns
returns c =
    rw (← c.requires, le-ltb c.args.fields 3 (omega arith), c.line_kind-kind.ensures ∙ ap line_kind c.field.ensures)
