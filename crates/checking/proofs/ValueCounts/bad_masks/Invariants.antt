-- `bad_masks` meets its contract. The loop keeps the answer for the masks of the attributes from i on.
use mathlib.Core.Path.{◌≡◌}
use lib.ListN.{take, drop}
use Rattle.checking.proofs.Masks.{wrong_masks}
use Rattle.checking.proofs.ValueCounts.bad_masks.Given as goal

abbrev pub invariant-loop-i : goal.invariant-loop-i
invariant-loop-i l = wrong_masks (drop l.i (take l.self.len l.self.counts)) (drop l.i l.masks) ≡ wrong_masks (take l.self.len l.self.counts) l.masks
