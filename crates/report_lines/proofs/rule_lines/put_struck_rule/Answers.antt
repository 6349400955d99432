use Rattle.report_lines.proofs.LineTexts.{struck_line_lem}
use Rattle.report_lines.proofs.rule_lines.put_struck_rule.Goals as goal

pub returns : goal.returns
returns c =
    let args = c.args in
    struck_line_lem args.policy.now.file.now args.policy.now.places.now args.i c.put_field.ensures c.put_named.ensures
