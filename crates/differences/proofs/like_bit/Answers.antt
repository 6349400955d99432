-- `like_bit`: by the bit of request v. Assumes nothing.
use mathlib.Core.Path.{sym, ◌∙◌}
use borrow.Author.Tests.{eq-eqb, ne_eqb}
use Rattle.differences.proofs.Likes.{like_set, like_clear}
use Rattle.differences.proofs.like_bit.Goals as goal

pub returns-then-word-v-eq1 : goal.returns-then-word-v-eq1
returns-then-word-v-eq1 c = let args = c.args in λ u. like_set args.word args.v args.on u (eq-eqb _ 1 c.if-word-v-eq1.true)

pub returns : goal.returns
returns c =
    let args = c.args in
    λ u set. like_clear args.word args.v args.on u (ne_eqb _ 1 c.if-word-v-eq1.false) (sym (c.without.ensures u) ∙ set)
