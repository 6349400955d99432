-- `bad_record` meets its contract.
use mathlib.Core.Path.{sym, ◌∙◌}
use Rattle.checking.proofs.bad_record.Goals as goal

pub returns-then-bad_stored : goal.returns-then-bad_stored
returns-then-bad_stored c = sym (rw (sym c.bad_stored.ensures ∙ c.if-bad_stored.true))

pub returns : goal.returns
returns c = c.bad_unused.ensures ∙ sym (rw (sym c.bad_stored.ensures ∙ c.if-bad_stored.false))
