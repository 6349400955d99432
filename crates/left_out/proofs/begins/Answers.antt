-- `begins`: too few bytes, or as many that are compared. Assumes nothing.
use Rattle.left_out.proofs.Turns.{too_few}
use Rattle.left_out.proofs.begins.Goals as goal

pub returns-then-text-at : goal.returns-then-text-at
returns-then-text-at c =
    too_few c.args.text.now c.args.file.now c.args.at c.args.start c.args.end c.requires.2 c.if-text-at.true
