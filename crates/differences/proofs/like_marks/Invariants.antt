-- `like_marks`: one word more. Assumes nothing.
use Rattle.differences.specs.Marks.{LikeMarks}
use Rattle.differences.proofs.like_marks.Given as goal

abbrev pub invariant-loop-i : goal.invariant-loop-i
invariant-loop-i l = LikeMarks l.words l.i l.v l.on l.like
