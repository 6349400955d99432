-- `put_pair`: no line, or its five fields. Assumes nothing.
use mathlib.Core.Path.{sym, ◌∙◌}
use borrow.Author.Tests.{not-true, not-false}
use Rattle.value_pairs.proofs.PairTexts.{no_line, a_line}
use Rattle.value_pairs.proofs.Pairs.put_pair.Goals as goal

pub returns-then-not-differs : goal.returns-then-not-differs
returns-then-not-differs c =
    let args = c.args in
    no_line args.self.now.decided.now args.low args.high args.n args.sink.now (not-false _ (sym c.differs.ensures ∙ c.if-not-differs.true))

pub returns : goal.returns
returns c =
    let args = c.args in
    a_line args.self.now.decided.now args.low args.high args.n (not-true _ (sym c.differs.ensures ∙ c.if-not-differs.false)) c.requires.0
    c.put_field.ensures
    c.put_number.ensures
    c.put_decision.ensures
    c.put_decision-2.ensures
    c.put_decision-3.ensures
