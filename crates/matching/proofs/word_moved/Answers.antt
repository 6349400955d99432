-- `word_moved`: the first word has none before it. Assumes nothing.
use native.Mathlib.Omega.{arith}
use Rattle.matching.proofs.Moving.{word_first, word_later}
use Rattle.matching.proofs.word_moved.Goals as goal

pub returns-then-k-eq0 : goal.returns-then-k-eq0
returns-then-k-eq0 c = λ v l. word_first c.args.plane.now _ _ v _ c.requires.1 l c.if-k-eq0.true (c.moved.ensures v l)

pub returns-else-k-eq0 : goal.returns-else-k-eq0
returns-else-k-eq0 c = λ v l. word_later c.args.plane.now _ _ v _ c.requires.1 l (omega arith) (c.moved-else-k-eq0.ensures v l)
