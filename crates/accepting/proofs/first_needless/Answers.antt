-- `first_needless`: the topmost needless rule from the place looked at on is the topmost of all. Assumes nothing.
use mathlib.Core.Path.{refl, sym, ap, ◌∙◌}
use native.Mathlib.Nat.{sub-zero}
use native.Mathlib.Omega.{arith}
use Rattle.meaning.specs.Text.{first_from}
use Rattle.laws.specs.Found.{found}
use Rattle.table.specs.Shape.{hit_of}
use Rattle.trials.specs.Decided.{needless_at}
use Rattle.trials.proofs.Trying.{asks, needless_other}
use Rattle.accepting.proofs.Judging.{first_here, first_later, first_nowhere}
use Rattle.accepting.proofs.first_needless.Goals as goal

pub loop-i-init : goal.loop-i-init
loop-i-init c =
    let p = c.args.o.now.policy in
    let test = needless_at p.file.now p.places.now p.table.now p.shape.n (hit_of p.shape) p.shape.space c.args.struck.now in
    (refl, ap (first_from test 0) (sym (sub-zero p.shape.n)))

pub try_rule-requires : goal.try_rule-requires
try_rule-requires c = (asks c.loop-i.invariant.0 c.requires, omega arith)

pub returns-in-Needless : goal.returns-in-Needless
returns-in-Needless c =
    let turn = c.loop-i in
    let (needless, same) = rw turn.invariant.0 at c.in-Needless.ensures in
    (sym (ap found (turn.invariant.1 ∙ first_here _ c.args.o.now.policy.shape.n turn.i (omega arith) needless)), same)

pub loop-i-preserved-in-Needed : goal.loop-i-preserved-in-Needed
loop-i-preserved-in-Needed c =
    let turn = c.loop-i in
    let (needed, same) = rw turn.invariant.0 at c.in-Needed.ensures in
    (same, turn.invariant.1 ∙ first_later _ c.args.o.now.policy.shape.n turn.i (omega arith) needed.0)

pub loop-i-preserved : goal.loop-i-preserved
loop-i-preserved c =
    let p = c.args.o.now.policy in
    let turn = c.loop-i in
    let (other, same) = rw turn.invariant.0 at c.in-Other.ensures in
    (same, turn.invariant.1 ∙ first_later _ p.shape.n turn.i (omega arith) (needless_other p.file.now p.places.now p.table.now c.args.struck.now p.shape turn.i other))

pub returns : goal.returns
returns c =
    let turn = c.loop-i in
    (sym (ap found (turn.invariant.1 ∙ first_nowhere _ c.args.o.now.policy.shape.n turn.i (omega arith))), turn.invariant.0)
