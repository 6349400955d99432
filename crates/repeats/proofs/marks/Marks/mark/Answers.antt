-- `repeats::marks::Marks::mark` meets its contract: one bit after the other.
use mathlib.Core.Path.{ap, ◌∙◌}
use Rattle.repeats.specs.Marks.{with_bit, second_bit, with_mark}
use Rattle.repeats.proofs.marks.Marks.mark.Goals as goal

pub returns : goal.returns
unfolding with_mark
returns c = c.set_bit-2.ensures ∙ ap (λ ws. with_bit ws (second_bit c.args.h)) c.set_bit.ensures
