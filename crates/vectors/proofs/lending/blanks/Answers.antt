-- `blanks` meets its contract: the first place of no elements is blank.
use Rattle.vectors.proofs.lending.blanks.Goals as goal

pub returns : goal.returns
returns c = rw c.none-none.ensures
