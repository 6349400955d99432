-- `next_rule`: the last needless rule below the place looked at is the last of all. Assumes nothing.
use Prim.Native.Nat.{◌-◌}
use mathlib.Core.Path.{refl, sym, ap, ◌∙◌}
use native.Mathlib.Omega.{arith}
use lib.ListN.{length-set}
use Rattle.laws.specs.Found.{found}
use Rattle.laws.proofs.Search.{last_here, last_earlier, last_nowhere}
use Rattle.trimming.specs.Decided.{next_at}
use Rattle.trials.proofs.Trying.{asks, needless_other}
use Rattle.trimming.proofs.Knowing.{known_needed, known_more}
use Rattle.trimming.proofs.next_rule.Goals as goal

pub loop-i-init : goal.loop-i-init
loop-i-init c = (refl, refl, refl, c.requires.2)

pub loop-i-preserved-then-hint : goal.loop-i-preserved-then-hint
loop-i-preserved-then-hint c =
    let p = c.args.o.now.policy in
    let turn = c.loop-i in
    let needed = known_needed p.file.now p.places.now p.table.now p.shape c.args.struck.now turn.hints turn.invariant.3 (turn.i - 1) (omega arith) c.if-hint.true in
    (turn.invariant.0, turn.invariant.1, turn.invariant.2 ∙ last_earlier _ turn.i (omega arith) needed, turn.invariant.3)

pub try_rule-requires : goal.try_rule-requires
try_rule-requires c = (asks c.loop-i.invariant.0 c.requires.0, omega arith)

pub returns-in-Needless : goal.returns-in-Needless
unfolding next_at
returns-in-Needless c =
    let turn = c.loop-i in
    let (needless, same) = rw turn.invariant.0 at c.in-Needless.ensures in
    (sym (ap found (turn.invariant.2 ∙ last_here _ turn.i (omega arith) needless)), same, turn.invariant.3)

pub overflow_cast-hints : goal.overflow_cast-hints
overflow_cast-hints c = omega (arith, c.in-Needed.ensures.0.1, c.requires.0.ready.small)

pub loop-i-preserved-in-Other : goal.loop-i-preserved-in-Other
loop-i-preserved-in-Other c =
    let p = c.args.o.now.policy in
    let turn = c.loop-i in
    let (other, same) = rw turn.invariant.0 at c.in-Other.ensures in
    let needed = needless_other p.file.now p.places.now p.table.now c.args.struck.now p.shape (turn.i - 1) other in
    (same, turn.invariant.1, turn.invariant.2 ∙ last_earlier _ turn.i (omega arith) needed, turn.invariant.3)

pub loop-i-preserved : goal.loop-i-preserved
loop-i-preserved c =
    let p = c.args.o.now.policy in
    let turn = c.loop-i in
    let (needed, same) = rw turn.invariant.0 at c.in-Needed.ensures in (
      same,
      rw length-set turn.invariant.1,
      turn.invariant.2 ∙ last_earlier _ turn.i (omega arith) needed.0,
      known_more p.file.now p.places.now p.table.now p.shape c.args.struck.now turn.hints turn.invariant.3 (turn.i - 1) _ (omega arith) (omega arith) needed.1 (λ _. needed.2),
    )

pub returns : goal.returns
unfolding next_at
returns c =
    let turn = c.loop-i in
    (sym (ap found (turn.invariant.2 ∙ last_nowhere _ turn.i (omega arith))), turn.invariant.0, turn.invariant.3)
