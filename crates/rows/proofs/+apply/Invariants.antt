-- `apply` calls itself on the parent, whose depth is less.
use Rattle.table.specs.Rows.{depth_of}
use Rattle.rows.proofs.+apply.Given as goal

abbrev pub decreases-apply : goal.decreases-apply
decreases-apply l = depth_of l.table.now l.i
