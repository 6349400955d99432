-- `element_named` meets its contract. The loop keeps the answer: the last element that has the name is the last before `i`.
use mathlib.Core.Path.{◌≡◌}
use Rattle.meaning.specs.Text.{last_below}
use Rattle.layout.specs.Places.{has_name}
use Rattle.layout.proofs.element_places.element_named.Given as goal

abbrev pub invariant-loop-i : goal.invariant-loop-i
invariant-loop-i l = last_below (has_name l.file l.places l.name) l.n ≡ last_below (has_name l.file l.places l.name) l.i
