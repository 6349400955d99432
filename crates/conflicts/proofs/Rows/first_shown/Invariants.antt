-- `first_shown`: no request of the blocks before b shows the conflict. Assumes nothing.
use Rattle.conflicts.proofs.Showing.{Unshown}
use Rattle.conflicts.proofs.Rows.first_shown.Given as goal

abbrev pub invariant-loop-b : goal.invariant-loop-b
invariant-loop-b l = Unshown l.self.applied.now l.self.permits.now l.self.denies.now l.i l.j l.k l.b
