-- `first_applicable`: bit by bit. Assumes nothing.
use Rattle.blocks.proofs.Words.{first_words}
use Rattle.blocks.proofs.first_applicable.Goals as goal

pub returns : goal.returns
returns c v =
    let args = c.args in
    first_words args.so_far.permits args.so_far.denies args.child.permits args.child.denies v _ _ (c.without.ensures v) (c.without-2.ensures v)
