-- `PolicyOutcomes::difference_in`: without obligations the decisions tell. Assumes nothing.
use mathlib.Core.Path.{sym, ◌∙◌}
use Rattle.differences.proofs.Marking.{first_decided}
use Rattle.differences.proofs.PolicyOutcomes.difference_in.Goals as goal

pub returns-then-not-self : goal.returns-then-not-self
returns-then-not-self c =
    let args = c.args in
    let o = args.self.now in
    let p = o.policy in
    let none = sym o.told ∙ c.if-not-self.true in
    first_decided p.file.now p.places.now p.table.now args.before.now args.struck.now o.hits.now o.outcomes.now p.shape c.requires.0 none args.block _ c.change_in-first.ensures
