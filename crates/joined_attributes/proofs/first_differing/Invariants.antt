-- `first_differing`: the loop keeps the answer, that of the second file's attributes from `j` on. Assumes nothing.
use Prim.Native.Nat.{◌+◌, ◌-◌}
use mathlib.Core.Path.{◌≡◌}
use Rattle.meaning.specs.Joining.{first_differing}
use Rattle.layout.specs.Places.{attributes_from, attributes_of}
use Rattle.joined_attributes.proofs.first_differing.Given as goal

abbrev pub invariant-loop-j : goal.invariant-loop-j
invariant-loop-j l = first_differing (attributes_of l.first.file.now l.first.attributes) 1 (attributes_of l.second.file.now l.second.attributes) ≡ first_differing (attributes_of l.first.file.now l.first.attributes) (l.j + 1) (attributes_from l.second.file.now l.second.attributes l.j (l.second.attributes.len - l.j))
