-- `choices_from`: the product of the sizes from `i` on. Assumes nothing.
use Prim.Native.Nat.{◌≤◌}
use mathlib.Core.Path.{◌≡◌}
use lib.ListN.{take, drop}
use Rattle.meaning.specs.Model.{product}
use Rattle.value_pairs.proofs.choices_from.Given as goal

abbrev pub invariant-loop-i : goal.invariant-loop-i
invariant-loop-i l = (l.from ≤ l.i) × (l.total ≡ product (drop l.i (take l.len l.counts)))
