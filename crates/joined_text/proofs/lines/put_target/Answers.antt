-- `put_target`: a tab, then the file's own target or `*`. Assumes nothing.
use native.Mathlib.Omega.{arith}
use Rattle.joined_text.proofs.Targets.{own_target, star_target}
use Rattle.joined_text.proofs.lines.put_target.Goals as goal

pub returns-then-k-n : goal.returns-then-k-n
returns-then-k-n c =
    let args = c.args in
    own_target args.targets.now args.n args.k c.put.ensures c.if-k-n.true c.field.ensures c.put_bytes.ensures

pub returns-else-k-n : goal.returns-else-k-n
returns-else-k-n c =
    let args = c.args in
    star_target args.targets.now args.n args.k c.put.ensures (omega (arith, c.if-k-n.false)) c.put-else-k-n.ensures
