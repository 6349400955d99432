-- `with_value`: one plane laid over another, as the value is in the mask or not. Assumes nothing.
use mathlib.Core.Path.{◌≡◌}
use mathlib.Core.Bool.{true, false}
use Rattle.matching.proofs.with_value.Goals as goal

pub returns-then-taken : goal.returns-then-taken
returns-then-taken c =
    let set : c.args.taken ≡ true = c.if-taken.true in
    rw set c.lay.ensures

pub returns : goal.returns
returns c =
    let unset : c.args.taken ≡ false = c.if-taken.false in
    rw unset c.again.ensures
