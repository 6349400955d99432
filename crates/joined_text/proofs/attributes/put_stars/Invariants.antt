-- `put_stars`: the loop keeps `i` of them. Assumes nothing.
use mathlib.Core.List.{◌∷◌}
use Rattle.meaning.specs.Text.{bytes, tab}
use Rattle.printing.proofs.Walks.{Sofar}
use Rattle.joined_text.proofs.attributes.put_stars.Given as goal

abbrev pub invariant-loop-i : goal.invariant-loop-i
invariant-loop-i l = Sofar (λ k. tab ∷ bytes "*") 2 0 l.initial.sink l._i l.sink
