-- `lowest`: the zeros below the lowest bit that is set. Assumes nothing.
use Rattle.blocks.proofs.LowBits.{lowest_is}
use borrow.Author.Rules.{rules}
use Rattle.blocks.proofs.lowest.Goals as goal

pub returns : goal.returns
returns c = lowest_is _ c.requires (search rules)
