-- `repeats::many::passes_again` meets its contract: a field that a mark is lacking does not stand again.
use mathlib.Core.Path.{sym, ◌∙◌}
use Rattle.repeats.proofs.Repeats.{no_suspect, no_suspect_kept, no_mark, mark_kept}
use mathlib.Core.Path.{subst⁻¹}
use mathlib.Core.List.{◌∷◌}
use Rattle.repeats.specs.Marks.{marked, Kept, first_at, others_at}
use Rattle.repeats.proofs.many.passes_again.Goals as goal

pub returns-then-not-marked : goal.returns-then-not-marked
returns-then-not-marked c =
    let p = c.requires in
    let none = sym c.marked.ensures ∙ c.if-not-marked.true in
    record { value = sym (no_suspect p none); kept = no_suspect_kept p none }

pub returns-then-not-note : goal.returns-then-not-note
returns-then-not-note c =
    let p = c.requires in
    let mark = c.marked in
    let note = c.note in
    let is-suspect = sym mark.ensures ∙ c.if-not-marked.false in
    let is-new = sym note.ensures.0 ∙ c.if-not-note.true in
    record { value = sym (no_mark p is-suspect is-new); kept = subst⁻¹ (λ ws. Kept (marked c.args.suspects.now.words) ws (first_at c.args.fields.now c.args.at ∷ others_at c.args.fields.now c.args.at)) note.ensures.1 (mark_kept p) }

pub returns : goal.returns
returns c =
    let p = c.requires in
    record { value = c.stands_again.ensures; kept = subst⁻¹ (λ ws. Kept (marked c.args.suspects.now.words) ws (first_at c.args.fields.now c.args.at ∷ others_at c.args.fields.now c.args.at)) c.note.ensures.1 (mark_kept p) }
