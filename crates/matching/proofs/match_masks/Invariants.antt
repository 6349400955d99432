-- `match_masks`: the plane has the requests of the attributes looked at. Assumes nothing.
use mathlib.Core.Path.{◌≡◌}
use lib.ListN.{length}
use Rattle.matching.proofs.Targets.{Looks}
use Rattle.matching.proofs.match_masks.Given as goal

abbrev pub invariant-loop-a : goal.invariant-loop-a
invariant-loop-a l = (length l.plane ≡ 64) × Looks l.several l.masks l.counts l.len l.plane l.size l.a
