-- `deny_overrides`: bit by bit. Assumes nothing.
use Rattle.blocks.proofs.Words.{deny_words}
use Rattle.blocks.proofs.deny_overrides.Goals as goal

pub returns : goal.returns
returns c v =
    let args = c.args in
    deny_words args.so_far.permits args.so_far.denies args.child.permits args.child.denies v c.without-permits.result (c.without-permits.ensures v)
