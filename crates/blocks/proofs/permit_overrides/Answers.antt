-- `permit_overrides`: bit by bit. Assumes nothing.
use Rattle.blocks.proofs.Words.{permit_words}
use Rattle.blocks.proofs.permit_overrides.Goals as goal

pub returns : goal.returns
returns c v =
    let args = c.args in
    permit_words args.so_far.permits args.so_far.denies args.child.permits args.child.denies v _ _ _ _ _ _ (c.permitted.ensures v) (c.permitted-2.ensures v) (c.denied.ensures v) (c.denied-2.ensures v) (c.without.ensures v) (c.without-2.ensures v)
