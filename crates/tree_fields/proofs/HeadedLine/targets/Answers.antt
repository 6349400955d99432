-- `targets` meets its contract: the part behind the word's tab.
use Prim.Native.Nat.{◌+◌}
use mathlib.Core.Path.{ap, ◌∙◌}
use native.Mathlib.Omega.{arith}
use Rattle.meaning.specs.Text.{cut, tab}
use Rattle.text.proofs.Pieces.{rest_of}
use Rattle.tree_fields.proofs.HeadedLine.targets.Goals as goal

pub slice_bounds-result-count : goal.slice_bounds-result-count
slice_bounds-result-count c = let behind = c.args.self.now.headed.targets c.requires in omega (arith, behind.0)

pub slice_bounds-result-start : goal.slice_bounds-result-start
slice_bounds-result-start c = let behind = c.args.self.now.headed.targets c.requires in omega (arith, behind.0)

pub returns-clause-fields : goal.returns-clause-fields
returns-clause-fields c =
    ap (cut tab) (rest_of c.args.self.now.text.now (c.args.self.now.ends.word + 1)) ∙ (c.args.self.now.headed.targets c.requires).1
