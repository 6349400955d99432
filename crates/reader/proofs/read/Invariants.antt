-- `read` meets its contract. The loop keeps that the lines left, read behind what was read so far, are the whole file, and
-- that they lay down the rest of it. The measure is the bytes left.
use Prim.Native.Nat.{◌-◌, ◌≤◌}
use mathlib.Core.Path.{◌≡◌}
use lib.ListN.{length}
use Rattle.attribute_lines.specs.Steps.{BeforeLine}
use Rattle.reader.proofs.Loop.{Keeps}
use Rattle.reader.proofs.read.Given as goal

abbrev pub invariant-loop-found : goal.invariant-loop-found
invariant-loop-found l = (length l.table ≡ length l.initial.table) × (length l.places ≡ length l.initial.places) × BeforeLine l.file l.table l.places l.st × (length l.file ≤ 16384) × Keeps l.file l.initial.table l.initial.places l.table l.places l.st

abbrev pub decreases-loop-found : goal.decreases-loop-found
decreases-loop-found l = length l.file - l.st.at
