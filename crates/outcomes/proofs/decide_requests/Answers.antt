-- `decide_requests`: what the words laid down tell. Assumes nothing.
use mathlib.Core.Path.{◌∙◌}
use Rattle.outcomes.proofs.Laying.{told_laid}
use Rattle.outcomes.proofs.decide_requests.Goals as goal

pub tell_all-requires : goal.tell_all-requires
tell_all-requires c =
    (c.find_outcomes.ensures.2.enough, c.requires.0.small, c.requires.1)

pub returns : goal.returns
returns c =
    c.tell_all.ensures ∙ told_laid c.args.table.now _ c.args.shape c.find_outcomes.ensures.2 _
