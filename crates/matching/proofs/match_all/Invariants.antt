-- `match_all`: the words of the first i elements are right. Assumes nothing.
use mathlib.Core.Path.{◌≡◌}
use lib.ListN.{length}
use Rattle.table.specs.Shape.{hit_of}
use Rattle.matching.specs.Hits.{Hits, Rest}
use Rattle.matching.proofs.match_all.Given as goal

abbrev pub invariant-loop-i : goal.invariant-loop-i
invariant-loop-i l = (length l.hits ≡ length l.initial.hits) × Hits l.table l.i (hit_of l.shape) l.shape.space l.hits × Rest l.i l.shape.space l.initial.hits l.hits
