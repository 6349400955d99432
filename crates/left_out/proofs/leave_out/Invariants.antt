-- `leave_out`: what is left to match tells what the whole does. Assumes nothing.
use mathlib.Core.Path.{◌≡◌}
use Prim.Native.Nat.{◌-◌, ◌≤◌}
use lib.ListN.{length}
use Rattle.layout.specs.Places.{start_of}
use Rattle.left_out.specs.Leaving.{leaving_from}
use Rattle.left_out.proofs.leave_out.Given as goal

abbrev pub invariant-loop-i : goal.invariant-loop-i
invariant-loop-i l =
    let p = l.policy in
    (l.at ≤ length l.proposal)
    × (length l.struck ≡ length l.initial.struck)
    × (leaving_from p.file.now p.places.now p.table.now l.n l.proposal (l.n - l.i) l.i l.at l.struck ≡ leaving_from p.file.now p.places.now p.table.now l.n l.proposal l.n 0 (start_of p.places.now 0) l.initial.struck)
