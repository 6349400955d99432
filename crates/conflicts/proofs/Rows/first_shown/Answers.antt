-- `first_shown`: no request of the blocks before b shows the conflict. Assumes nothing.
use mathlib.Core.Path.{sym, ap}
use native.Mathlib.Omega.{arith}
use Rattle.laws.specs.Found.{found}
use Rattle.conflicts.proofs.Showing.{unshown_next, shown_first, shown_past, shown_none}
use Rattle.conflicts.proofs.Rows.first_shown.Goals as goal

pub loop-b-init : goal.loop-b-init
loop-b-init c = λ m l. absurd (omega arith)

pub returns-then-m-self : goal.returns-then-m-self
returns-then-m-self c =
    let args = c.args in
    sym (ap found (shown_first args.self.now.applied.now args.self.now.permits.now args.self.now.denies.now args.i args.j args.k c.loop-b.b c.loop-b.invariant args.self.now.space _ c.lowest.ensures c.if-m-self.true))

pub returns-then-word-ne0 : goal.returns-then-word-ne0
returns-then-word-ne0 c =
    let args = c.args in
    sym (ap found (shown_past args.self.now.applied.now args.self.now.permits.now args.self.now.denies.now args.i args.j args.k c.loop-b.b c.loop-b.invariant args.self.now.space _ c.lowest.ensures c.if-m-self.false))

pub loop-b-preserved : goal.loop-b-preserved
loop-b-preserved c =
    let args = c.args in
    unshown_next args.self.now.applied.now args.self.now.permits.now args.self.now.denies.now args.i args.j args.k c.loop-b.b c.loop-b.invariant c.if-word-ne0.false

pub returns : goal.returns
returns c =
    let args = c.args in
    sym (ap found (shown_none args.self.now.applied.now args.self.now.permits.now args.self.now.denies.now args.i args.j args.k c.loop-b.b c.loop-b.invariant args.self.now.space (omega arith)))
