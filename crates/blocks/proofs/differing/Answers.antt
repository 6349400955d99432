-- `differing`: bit by bit. Assumes nothing.
use Rattle.meaning.specs.Deciding.{bit}
use Rattle.laws.proofs.Bits.{bit_or_lem, bit_xor_lem}
use Rattle.blocks.proofs.Combining.{differ_bits}
use Rattle.blocks.proofs.differing.Goals as goal

pub returns : goal.returns
returns c v =
    let args = c.args in
    let one = args.one in
    let other = args.other in
    rw (bit_or_lem, bit_xor_lem one.permits other.permits v, bit_xor_lem one.denies other.denies v) (differ_bits (bit one.permits v) (bit one.denies v) (bit other.permits v) (bit other.denies v))
