-- `first_other`: each turn passes a line of the original, and what is left gives what the whole gives. Assumes nothing.
use mathlib.Core.Path.{refl, sym, ◌∙◌}
use native.Mathlib.Omega.{arith}
use borrow.Author.Rules.{rules}
use Rattle.other_lines.proofs.Walking.{all_match, none_left, taken, skipped, found}
use Rattle.other_lines.proofs.first_other.Goals as goal

pub loop-from-init : goal.loop-from-init
loop-from-init c = record { at_inside = search rules; from_inside = search rules; some_line = search rules; few = search rules; original_ended = c.requires.0; proposal_ended = c.requires.1; finds = refl }

pub returns-then-at-original : goal.returns-then-at-original
returns-then-at-original c =
    record { value = none_left c.loop-from.invariant c.end_of-to.ensures (search rules) c.if-at-original.true; within = search rules }

pub loop-from-preserved-then-same : goal.loop-from-preserved-then-same
loop-from-preserved-then-same c =
    taken c.loop-from.invariant c.end_of-to.ensures (search rules) c.end_of-end.ensures c.if-at-original.false (sym c.same.ensures ∙ c.if-same.true)

pub returns-then-not-rule_line : goal.returns-then-not-rule_line
returns-then-not-rule_line c =
    let unlike = sym c.same.ensures ∙ c.if-same.false in
    record { value = found c.loop-from.invariant c.end_of-to.ensures (search rules) c.end_of-end.ensures c.if-at-original.false unlike (sym c.rule_line.ensures ∙ c.if-not-rule_line.true); within = search rules }

pub loop-from-preserved : goal.loop-from-preserved
loop-from-preserved c =
    let unlike = sym c.same.ensures ∙ c.if-same.false in
    skipped c.loop-from.invariant c.end_of-to.ensures (search rules) c.end_of-end.ensures c.if-at-original.false unlike (sym c.rule_line.ensures ∙ c.if-not-rule_line.false)

pub returns : goal.returns
returns c = record { value = all_match c.loop-from.invariant (omega arith); within = search rules }
