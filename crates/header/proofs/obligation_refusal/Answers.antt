-- `obligation_refusal` meets its contract: the law of each of its refusals.
use mathlib.Core.Path.{sym, ap, ◌∙◌}
use Rattle.meaning.specs.Text.{is_name}
use Rattle.header.proofs.HeaderLines.{not_three_refused, bad_name_refused, no_element_refused}
use Rattle.header.proofs.obligation_refusal.Goals as goal

pub returns-then-fields-ne3 : goal.returns-then-fields-ne3
returns-then-fields-ne3 c = λ s. sym (not_three_refused s _ _ c.requires c.if-fields-ne3.true)

pub returns-then-not-is_name : goal.returns-then-not-is_name
returns-then-not-is_name c =
    λ s. sym (bad_name_refused s _ _ c.requires c.if-fields-ne3.false (ap is_name (sym c.field.ensures) ∙ sym c.is_name.ensures ∙ c.if-not-is_name.true))

pub returns : goal.returns
returns c =
    λ s. sym (no_element_refused s _ _ c.requires c.if-fields-ne3.false (ap is_name (sym c.field.ensures) ∙ sym c.is_name.ensures ∙ c.if-not-is_name.false))
