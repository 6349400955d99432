-- `later_bit`: a set's mask without its lowest bit. Assumes nothing.
use mathlib.Core.Path.{refl}
use Rattle.value_pairs.proofs.SetBits.{none_later, several_later, one_later}
use Rattle.value_pairs.proofs.later_bit.Goals as goal

pub returns-then-later-eq0 : goal.returns-then-later-eq0
returns-then-later-eq0 c = none_later c.args.set _ refl c.requires.0 c.requires.1 c.if-later-eq0.true

pub returns-then-later-ne0 : goal.returns-then-later-ne0
returns-then-later-ne0 c = several_later c.args.set _ refl c.requires.0 c.requires.1 c.if-later-ne0.true

pub returns : goal.returns
returns c = one_later c.args.set _ refl c.requires.0 c.requires.1 c.if-later-eq0.false c.if-later-ne0.false
