-- `put_line`: an obligation's line as it is, any other one deeper. Assumes nothing.
use mathlib.Core.Path.{sym, ap, ◌∙◌}
use native.Mathlib.Omega.{arith}
use Rattle.meaning.specs.Text.{bytes, same}
use Rattle.joined_text.specs.Lines.{places_of}
use Rattle.joined_text.proofs.Rows.{first_field, kept_row_lem, other_row, has_targets}
use Rattle.joined_text.proofs.lines.put_line.Goals as goal

pub returns-then-same : goal.returns-then-same
returns-then-same c =
    let row = c.args.row.now in
    let letter = c.same.ensures ∙ ap (λ t. same t (bytes "O")) (first_field row c.end_of-to.result (omega (arith, c.end_of-to.ensures.value))) in
    kept_row_lem row (places_of c.args.p.now) c.args.n (sym letter ∙ c.if-same.true) c.put_field.ensures

pub put_deeper-requires : goal.put_deeper-requires
put_deeper-requires c =
    let row = c.args.row.now in
    let letter = c.same.ensures ∙ ap (λ t. same t (bytes "O")) (first_field row c.end_of-to.result (omega (arith, c.end_of-to.ensures.value))) in
    (has_targets row c.requires.0 (sym letter ∙ c.if-same.false), c.requires.1, c.requires.2, c.requires.3)

pub returns-else-same : goal.returns-else-same
returns-else-same c =
    let row = c.args.row.now in
    let letter = c.same.ensures ∙ ap (λ t. same t (bytes "O")) (first_field row c.end_of-to.result (omega (arith, c.end_of-to.ensures.value))) in
    other_row row (places_of c.args.p.now) c.args.n (sym letter ∙ c.if-same.false) c.put_deeper.ensures
