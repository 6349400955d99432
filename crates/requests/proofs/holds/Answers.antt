-- `holds`: a mask has no bit from 16 on. Assumes nothing.
use mathlib.Core.Path.{sym}
use Rattle.requests.proofs.Targets.{no_high_bit}
use Rattle.requests.proofs.holds.Goals as goal

pub returns-else-v-lt16 : goal.returns-else-v-lt16
returns-else-v-lt16 c = sym (no_high_bit _ _ c.ranges.mask.fits c.if-v-lt16.false)
