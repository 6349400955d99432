-- `line_of`: the lines so far, and those of the elements that come before it, are all. Assumes nothing.
use mathlib.Core.Path.{◌≡◌}
use Prim.Native.Nat.{suc, ◌+◌, ◌-◌, ◌*◌, ◌≤◌}
use Rattle.accepting.specs.Judged.{lines_from}
use Rattle.accepting.proofs.line_of.Given as goal

abbrev pub invariant-loop-j : goal.invariant-loop-j
invariant-loop-j l =
    (l.line ≤ l.attributes + 1 + 3 * l.j) × (l.line + lines_from l.places l.struck l.j (l.i - l.j) ≡ suc (l.attributes + lines_from l.places l.struck 0 l.i))
