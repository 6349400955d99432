use Rattle.report_lines.proofs.LineTexts.{conflict}
use Rattle.report_lines.proofs.conflict_lines.put_conflict.Goals as goal

pub returns : goal.returns
returns c =
    let args = c.args in
    conflict args.policy.now.file.now args.policy.now.places.now args.c c.requires.3
    c.put_field.ensures
    c.put_named.ensures
    c.put_named-2.ensures
    c.put_named-3.ensures
    c.put_number.ensures
