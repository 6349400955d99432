-- `without`: by the two bits. Assumes nothing.
use Rattle.blocks.proofs.Combining.{bit_without}
use Rattle.blocks.proofs.without.Goals as goal

pub returns : goal.returns
returns c v = bit_without c.args.word c.args.other v
