-- `repeats::many::suspect` meets its contract.
use mathlib.Core.Path.{sym, ◌∙◌}
use Rattle.repeats.proofs.many.suspect.Goals as goal

pub returns-then-note : goal.returns-then-note
returns-then-note c =
    let note = c.note in
    let old = sym note.ensures.0 ∙ c.if-note.true in
    record { passed_after = note.ensures.1; suspects_after = rw old c.mark.ensures }

pub returns-else-note : goal.returns-else-note
returns-else-note c =
    let note = c.note in
    let new = sym note.ensures.0 ∙ c.if-note.false in
    record { passed_after = note.ensures.1; suspects_after = rw new }
