use mathlib.Core.Path.{refl}
use borrow.Author.Rules.{rules}
use Rattle.report_lines.proofs.LineTexts.{segment}
use Rattle.report_lines.proofs.segment_lines.put_segment.Goals as goal

pub returns : goal.returns
returns c =
    let args = c.args in
    segment args.policy.now.file.now args.policy.now.places.now args.policy.now.shape.n args.segment _ refl c.requires.1 (search rules)
    c.put_field.ensures
    c.put_number.ensures
    c.put_number-2.ensures
    c.put_decision.ensures
    c.put_names.ensures
