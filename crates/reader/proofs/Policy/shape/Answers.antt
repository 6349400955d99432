-- `shape`: the choices of the attributes are the layout's. Assumes nothing.
use Rattle.reader.proofs.Policy.shape.Goals as goal

pub returns : goal.returns
returns c = rw (c.severals.ensures, c.sizes.ensures)
