-- `none` meets its contract: both places of the blank element are unused.
use Rattle.elements.proofs.Elements.none.Goals as goal

pub returns : goal.returns
returns c = rw (c.unused-first.ensures, c.unused-second.ensures)
