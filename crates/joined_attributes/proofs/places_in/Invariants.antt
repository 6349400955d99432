-- `places_in`: the loop keeps the list of the places so far: of the first file's attributes, and of those alone behind them.
-- Assumes nothing.
use mathlib.Core.Path.{◌≡◌}
use Rattle.meaning.specs.Joining.{both}
use Rattle.layout.specs.Places.{attributes_from, attributes_of}
use Rattle.joined_attributes.specs.Placing.{listed, places_in}
use Rattle.joined_attributes.proofs.places_in.Given as goal

abbrev pub invariant-loop-j : goal.invariant-loop-j
invariant-loop-j l = l.p ≡ listed (places_in (attributes_of l.own.file.now l.own.attributes) (both (attributes_of l.first.file.now l.first.attributes) (attributes_from l.second.file.now l.second.attributes 0 l.j)))
