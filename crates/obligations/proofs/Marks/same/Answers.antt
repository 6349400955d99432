-- `Marks::same`: what was laid down is each text whole.
use mathlib.Core.Path.{ap₂, ◌∙◌}
use borrow.Author.Rules.{rules}
use Rattle.meaning.specs.Text.{same}
use Rattle.printing.proofs.Laws.{filled}
use Rattle.obligations.proofs.Texts.{laid_whole}
use Rattle.obligations.proofs.Marks.same.Goals as goal

pub returns : goal.returns
returns c =
    let (one, fits) = c.put.ensures in
    let (two, other_fits) = c.put-2.ensures in
    c.same.ensures ∙ ap₂ same (laid_whole (filled one (search rules)) fits) (laid_whole (filled two (search rules)) other_fits)
