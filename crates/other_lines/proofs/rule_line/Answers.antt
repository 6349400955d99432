-- `rule_line`: the part up to the first tab is the first field. Assumes nothing.
use mathlib.Core.Path.{sym, ap, ◌∙◌}
use borrow.Author.Rules.{rules}
use Rattle.meaning.specs.Text.{bytes, same, tab}
use Rattle.text.proofs.Pieces.{piece_first}
use Rattle.other_lines.proofs.rule_line.Goals as goal

pub returns : goal.returns
returns c =
    let e = c.end_of-to in
    c.same.ensures ∙ sym (ap (λ x. same x (bytes "R")) (piece_first tab _ 0 e.result e.ensures.value (search rules)))
