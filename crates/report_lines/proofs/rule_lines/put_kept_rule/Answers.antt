use Rattle.report_lines.proofs.LineTexts.{none_kept, not_kept, kept}
use Rattle.report_lines.proofs.rule_lines.put_kept_rule.Goals as goal

pub returns-in_default : goal.returns-in_default
returns-in_default c = none_kept _ _ _ _ _ c.in_default.is

pub returns-then-policy-m : goal.returns-then-policy-m
returns-then-policy-m c = not_kept _ _ _ _ _ _ c.in-Some.is c.if-policy-m.true

pub returns : goal.returns
returns c = kept _ _ _ _ _ _ c.in-Some.is c.if-policy-m.false c.requires.2 c.put_field.ensures c.put_named.ensures c.put_number.ensures
