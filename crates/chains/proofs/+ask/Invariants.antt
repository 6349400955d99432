-- `ask` calls itself on what stands behind a child, which is less. Its loop keeps the bits set and those still to be set.
use Rattle.std.proofs.Common.{◌-◌, ◌≡◌, ◌≤◌, drop}
use Rattle.chains.proofs.Marking.{Marking}
use Rattle.chains.proofs.+ask.Given as goal

abbrev pub decreases-ask : goal.decreases-ask
decreases-ask l = l.b.now.n - l.from

abbrev pub invariant-loop-at : goal.invariant-loop-at
invariant-loop-at l =
    let b = l.b in
    (l.from ≤ l.behind) × (l.behind ≤ b.n) × (drop b.n l.given ≡ drop b.n l.initial.given)
    × Marking b.table.now b.struck.now b.hits.now b.n b.block l.from l.a.depth l.a.word l.a.on l.a.first l.initial.given l.given l.left l.behind

abbrev pub decreases-loop-at : goal.decreases-loop-at
decreases-loop-at l = l.b.n - l.behind
