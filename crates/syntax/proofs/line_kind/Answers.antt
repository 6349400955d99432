-- By the field's length, then by its one byte.
use mathlib.Core.Path.{◌∙◌}
use Rattle.syntax.proofs.Fields.{kind_byte, kind_other}
use Rattle.syntax.proofs.line_kind.Goals as goal

pub returns-then-first-ne1 : goal.returns-then-first-ne1
returns-then-first-ne1 c = kind_other c.args.first.now c.if-first-ne1.true

pub returns : goal.returns
returns c = c.letter_kind.ensures ∙ kind_byte c.args.first.now c.if-first-ne1.false
