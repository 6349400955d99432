-- `of` meets its contract: each field starts behind the tab that ends the one before.
use Rattle.tree_fields.proofs.Heading.{depth_starts, name_starts, word_starts, ends_are, headed}
use Rattle.tree_fields.proofs.HeadedLine.of.Goals as goal

pub end_of-depth-requires : goal.end_of-depth-requires
end_of-depth-requires c = (depth_starts c.args.line.now c.requires c.end_of-letter.ensures).inside

pub end_of-name-requires : goal.end_of-name-requires
end_of-name-requires c = (name_starts c.args.line.now c.requires c.end_of-letter.ensures c.end_of-depth.ensures).inside

pub end_of-word-requires : goal.end_of-word-requires
end_of-word-requires c = (word_starts c.args.line.now c.requires c.end_of-letter.ensures c.end_of-depth.ensures c.end_of-name.ensures).inside

pub invariant_of-result : goal.invariant_of-result
invariant_of-result c =
    record { headed = headed c.args.line.now c.requires c.end_of-letter.ensures c.end_of-depth.ensures c.end_of-name.ensures c.end_of-word.ensures }

pub returns-clause-ends : goal.returns-clause-ends
returns-clause-ends c = ends_are c.args.line.now c.requires c.end_of-letter.ensures c.end_of-depth.ensures c.end_of-name.ensures c.end_of-word.ensures
