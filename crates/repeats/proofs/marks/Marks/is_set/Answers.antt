-- `repeats::marks::Marks::is_set` meets its contract.
use borrow.Author.Rules.{rules}
use Rattle.repeats.specs.Marks.{is_set}
use Rattle.repeats.proofs.marks.Marks.is_set.Goals as goal

pub returns : goal.returns
unfolding is_set
returns c = search rules
