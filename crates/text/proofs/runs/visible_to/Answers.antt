-- `text::runs::visible_to` meets its contract.
use Rattle.std.proofs.Common.{rules}
use borrow.Author.Tests.{not-true, not-false}
use Rattle.text.proofs.runs.visible_to.Goals as goal

pub returns : goal.returns
returns c =
    let e = c.first_from.ensures in
    record { from = e.from; within = e.within; all = λ k h l. let q = e.passed k h l in not-false _ (search rules); ends = λ h. let q = e.found h in not-true _ (search rules) }
