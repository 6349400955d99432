-- `put_targets`: the targets of the joined attributes so far. Assumes nothing.
use mathlib.Core.List.{◌∷◌}
use Prim.Native.Nat.{◌+◌}
use lib.ListN.{length, get_or}
use Rattle.meaning.specs.Text.{cut, tab}
use Rattle.printing.proofs.Walks.{Sofar}
use Rattle.joined_text.specs.Lines.{placed_target}
use Rattle.joined_text.proofs.lines.put_targets.Given as goal

abbrev pub invariant-loop-i : goal.invariant-loop-i
invariant-loop-i l = Sofar (λ i. tab ∷ placed_target l.n (cut tab l.targets) (get_or l.p.places i 0)) (length l.targets + 2) 0 l.initial.sink l.i l.sink
