-- `differ_any`: the loop keeps the answer, that of the attributes from `i` on. Assumes nothing.
use Prim.Native.Nat.{◌-◌}
use mathlib.Core.Path.{◌≡◌}
use Rattle.meaning.specs.Text.{any}
use Rattle.meaning.specs.Joining.{differs}
use Rattle.layout.specs.Places.{attribute_at, attributes_from, attributes_of}
use Rattle.joined_attributes.proofs.differ_any.Given as goal

abbrev pub invariant-loop-i : goal.invariant-loop-i
invariant-loop-i l = any (differs (attribute_at l.second.file.now l.second.attributes l.j)) (attributes_of l.first.file.now l.first.attributes) ≡ any (differs (attribute_at l.second.file.now l.second.attributes l.j)) (attributes_from l.first.file.now l.first.attributes l.i (l.first.attributes.len - l.i))
