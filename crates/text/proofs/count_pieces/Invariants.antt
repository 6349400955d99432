-- `text::count_pieces` meets its contract. The loop keeps one more than the bytes `sep` that it passed.
use Prim.Native.Nat.{◌+◌}
use mathlib.Core.Path.{◌≡◌}
use lib.Dec.{eqb}
use lib.ListN.{take}
use Rattle.std.specs.List.{count_by}
use Rattle.text.proofs.count_pieces.Given as goal

abbrev pub invariant-loop-b : goal.invariant-loop-b
invariant-loop-b l = l.pieces ≡ count_by (λ x. eqb x l.sep) (take l.b-index l.s) + 1
