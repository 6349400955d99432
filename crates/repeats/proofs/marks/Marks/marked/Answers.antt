-- `repeats::marks::Marks::marked` meets its contract.
use mathlib.Core.Path.{sym, ◌∙◌}
use Rattle.repeats.specs.Marks.{marked}
use Rattle.repeats.proofs.marks.Marks.marked.Goals as goal

pub returns-then-is_set : goal.returns-then-is_set
unfolding marked
returns-then-is_set c = rw (sym c.is_set.ensures ∙ c.if-is_set.true) c.is_set-then-is_set.ensures

pub returns-else-is_set : goal.returns-else-is_set
unfolding marked
returns-else-is_set c = rw (sym c.is_set.ensures ∙ c.if-is_set.false) c.if-is_set.false
