-- `lay`: the words before w are laid, the others as they were. Assumes nothing.
use Rattle.matching.proofs.Laying.{Lays}
use Rattle.matching.proofs.lay.Given as goal

abbrev pub invariant-loop-w : goal.invariant-loop-w
invariant-loop-w l = Lays l.plane l.at l.initial.to l.to l.w
