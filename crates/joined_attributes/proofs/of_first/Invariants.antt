-- `of_first`: the loop keeps the list of the places so far. Assumes nothing.
use mathlib.Core.Path.{◌≡◌}
use Rattle.layout.specs.Places.{attributes_from, attributes_of}
use Rattle.joined_attributes.specs.Placing.{listed, places_in}
use Rattle.joined_attributes.proofs.of_first.Given as goal

abbrev pub invariant-loop-i : goal.invariant-loop-i
invariant-loop-i l = l.p ≡ listed (places_in (attributes_of l.own.file.now l.own.attributes) (attributes_from l.first.file.now l.first.attributes 0 l.i))
