-- `moved`: the bits of the word come from below, those of the word before it from above. Assumes nothing.
use Rattle.matching.proofs.Moving.{moved}
use Rattle.matching.proofs.moved.Goals as goal

pub returns : goal.returns
returns c = λ v l. moved _ _ _ v c.requires l c.ranges.before.fits
