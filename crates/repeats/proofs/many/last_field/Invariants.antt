-- `repeats::many::last_field` meets its contract. The loop keeps the hash of the bytes passed, and the fields behind.
use mathlib.Core.Path.{◌≡◌}
use Rattle.repeats.specs.Marks.{hash_of, first_at, others_at}
use Rattle.repeats.proofs.many.last_field.Given as goal

abbrev pub invariant-loop-i : goal.invariant-loop-i
invariant-loop-i l = (l.hash ≡ hash_of (first_at l.s l.i)) × (others_at l.s l.i ≡ others_at l.s l.end)
