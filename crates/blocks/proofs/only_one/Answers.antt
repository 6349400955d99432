-- `only_one`: bit by bit. Assumes nothing.
use Rattle.blocks.proofs.Words.{only_one_words}
use Rattle.blocks.proofs.only_one.Goals as goal

pub returns : goal.returns
returns c v =
    let args = c.args in
    let so = args.so_far in
    let child = args.child in
    only_one_words so.given.permits so.given.denies child.given.permits child.given.denies v so.matched child.matched _ _ (c.without-earlier.ensures v) (c.without-later.ensures v)
