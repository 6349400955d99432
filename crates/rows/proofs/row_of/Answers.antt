-- `row_of`: a row of ones, narrowed. Assumes nothing.
use Rattle.rows.proofs.Rows.{row_applied}
use Rattle.rows.proofs.row_of.Goals as goal

pub returns : goal.returns
returns c =
    row_applied c.args.table.now c.args.hits.now c.args.n c.args.blocks c.args.i c.apply.new.row c.requires.0.most c.apply.ensures
