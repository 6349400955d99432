-- `sizes`: those still to come, laid behind those that are there, are all.
use Prim.Native.Nat.{◌-◌}
use mathlib.Core.Path.{◌≡◌}
use lib.Seq.{sets}
use Rattle.meaning.specs.Model.{padded}
use Rattle.layout.specs.Places.{sizes_from}
use Rattle.layout.proofs.Attributes.sizes.Given as goal

abbrev pub invariant-loop-i : goal.invariant-loop-i
invariant-loop-i l = sets l.sizes l.i (sizes_from l.fn.self l.i (l.fn.self.len - l.i)) ≡ padded 6 (sizes_from l.fn.self 0 l.fn.self.len)
