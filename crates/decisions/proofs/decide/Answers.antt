-- `decide`: the first element is not struck, so it is the first that is left. Assumes nothing.
use mathlib.Core.Path.{sym, ap, ◌∙◌}
use native.Mathlib.Nat.{sub-zero}
use Rattle.meaning.specs.Deciding.{matches}
use Rattle.requests.specs.Values.{values_of, severals_of}
use Rattle.decisions.proofs.Children.{first_left}
use Rattle.decisions.proofs.decide.Goals as goal

pub returns : goal.returns
returns c =
    ap (λ r. r.decision) c.decide_at.ensures
    ∙ sym (rw sub-zero at (first_left (matches (severals_of c.args.q) (values_of c.args.q)) c.args.table.now c.args.struck.now c.args.n 0 c.requires.0.place c.requires.2))
