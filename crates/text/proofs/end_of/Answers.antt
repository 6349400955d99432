-- `text::end_of` meets its contract.
use Rattle.std.proofs.Common.{rules}
use borrow.Author.Tests.{eqb-true, eqb-false}
use Rattle.text.proofs.Pieces.{search_ends}
use Rattle.text.proofs.end_of.Goals as goal

pub returns-clause-value : goal.returns-clause-value
returns-clause-value c =
    let a = c.args in
    search_ends a.sep a.s.now a.at c.first_from.result c.first_from.ensures (λ x h. eqb-false x a.sep (search rules)) (λ x h. eqb-true x a.sep (search rules))
