-- `agreed`: bit by bit. Assumes nothing.
use Rattle.chains.proofs.Words.{alike_words}
use Rattle.chains.proofs.agreed.Goals as goal

pub returns : goal.returns
returns c v =
    let args = c.args in
    alike_words args.first.permits args.first.denies args.other.permits args.other.denies v _ _ _ _ (c.permitted.ensures v) (c.permitted-2.ensures v) (c.denied.ensures v) (c.denied-2.ensures v)
