-- `known` meets its contract. The loop keeps that no element before has the name.
use mathlib.Core.Path.{◌≡◌}
use mathlib.Core.Bool.{false}
use mathlib.Core.List.{map}
use Rattle.meaning.specs.Text.{among_names}
use Rattle.meaning.specs.Model.{name_of}
use Rattle.checking.specs.Tested.{earlier}
use Rattle.checking.proofs.known.Given as goal

abbrev pub invariant-loop-other : goal.invariant-loop-other
invariant-loop-other l = among_names (name_of l.e) (map name_of (earlier l.before l.other-index)) ≡ false
