-- `start` meets its contract: it has no attribute.
use Rattle.attribute_lines.proofs.start.Goals as goal

pub returns : goal.returns
returns c = rw c.none-attributes.ensures
