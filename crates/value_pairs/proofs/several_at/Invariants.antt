-- `several_at`: the search goes on with the attributes from `i` on. Assumes nothing.
use Prim.Native.Nat.{◌-◌}
use mathlib.Core.Path.{◌≡◌}
use Rattle.meaning.specs.ValuePairs.{several_at}
use Rattle.layout.specs.Places.{attributes_from, attributes_of}
use Rattle.value_pairs.proofs.several_at.Given as goal

abbrev pub invariant-loop-i : goal.invariant-loop-i
invariant-loop-i l = several_at 0 l.name (attributes_of l.file l.a) ≡ several_at l.i l.name (attributes_from l.file l.a l.i (l.len - l.i))
