-- `has_name`: the name that stands there is compared. Assumes nothing.
use mathlib.Core.Path.{ap, ◌∙◌}
use Rattle.meaning.specs.Text.{same_name}
use Rattle.layout.proofs.has_name.Goals as goal

pub returns : goal.returns
returns c = c.same_name.ensures ∙ ap (same_name c.args.name.now) c.name.ensures
