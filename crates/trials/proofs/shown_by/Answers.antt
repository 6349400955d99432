-- `shown_by`: what `needed_by` gives for a rule that is left. Assumes nothing.
use mathlib.Core.Path.{refl, sym, ap, ◌∙◌}
use Rattle.laws.specs.Found.{found}
use Rattle.trials.proofs.Trying.{shown_rule, shown_other}
use Rattle.trials.proofs.shown_by.Goals as goal

pub returns-then-not-is_left : goal.returns-then-not-is_left
returns-then-not-is_left c =
    (sym (ap found (shown_other _ _ _ _ _ _ (sym c.is_left.ensures ∙ c.if-not-is_left.true))), refl)

pub needed_by-requires : goal.needed_by-requires
needed_by-requires c =
    let pre = c.requires in
    (pre.0, pre.1, sym c.is_left.ensures ∙ c.if-not-is_left.false)

pub returns : goal.returns
returns c =
    let rule = sym c.is_left.ensures ∙ c.if-not-is_left.false in
    let needed = c.needed_by.ensures in
    (needed.0 ∙ sym (ap found (shown_rule _ _ _ _ _ _ rule)), needed.1)
