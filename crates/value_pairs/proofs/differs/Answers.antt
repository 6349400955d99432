-- `differs`: by its two comparisons. Assumes nothing.
use mathlib.Core.Path.{sym, ◌∙◌}
use Rattle.decisions.proofs.Same.{same_is}
use Rattle.value_pairs.proofs.differs.Goals as goal

pub returns-then-eq : goal.returns-then-eq
returns-then-eq c = rw (sym (same_is c.args.both c.args.earlier) ∙ sym c.eq.ensures ∙ c.if-eq.true, ← same_is c.args.both c.args.later) c.ne.ensures

pub returns : goal.returns
returns c = rw (sym (same_is c.args.both c.args.earlier) ∙ sym c.eq.ensures ∙ c.if-eq.false)
