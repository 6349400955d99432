-- `tree_refusal` meets its contract: the law of each of its refusals.
use Prim.Native.Nat.{◌+◌}
use mathlib.Core.Path.{sym, ap, ◌∙◌}
use Rattle.meaning.specs.Text.{is_name}
use Rattle.header.proofs.HeaderLines.{count_refused, name_refused, place_refused}
use Rattle.header.proofs.tree_refusal.Goals as goal

pub returns-then-fields-attributes : goal.returns-then-fields-attributes
returns-then-fields-attributes c =
    let (k, line) = c.requires.1 in
    λ s count. sym (count_refused s _ k _ line (λ e. c.if-fields-attributes.true (e ∙ ap (λ m. 4 + m) count)))

pub returns-then-not-is_name : goal.returns-then-not-is_name
returns-then-not-is_name c =
    let (k, line) = c.requires.1 in
    λ s count. sym (name_refused s _ k _ line (c.if-fields-attributes.false ∙ ap (λ m. 4 + m) (sym count)) (ap is_name (sym c.field.ensures) ∙ sym c.is_name.ensures ∙ c.if-not-is_name.true))

pub returns : goal.returns
returns c =
    let (k, line) = c.requires.1 in
    λ s count. sym (place_refused s _ k _ line (c.if-fields-attributes.false ∙ ap (λ m. 4 + m) (sym count)) (ap is_name (sym c.field.ensures) ∙ sym c.is_name.ensures ∙ c.if-not-is_name.false))
