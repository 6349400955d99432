-- `step`: the decisions, and whether one of the two matches. Assumes nothing.
use Rattle.laws.proofs.Bits.{bit_or_lem}
use Rattle.blocks.proofs.step.Goals as goal

pub returns : goal.returns
returns c v =
    let args = c.args in
    λ i. record { matched = bit_or_lem args.so_far.matched args.child.matched v i; decision = c.next.ensures v i }
