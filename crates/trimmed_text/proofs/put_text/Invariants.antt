-- `put_text` meets its contract. The loop stores the lines left of one element behind the other's, and stays before the element looked at.
use Prim.Native.Nat.{◌+◌, ◌≤◌}
use lib.ListN.{length}
use Rattle.printing.proofs.Walks.{Sofar}
use Rattle.trimmed_text.specs.Copied.{piece_at}
use Rattle.trimmed_text.proofs.Copying.{reached}
use Rattle.trimmed_text.proofs.put_text.Given as goal

abbrev pub invariant-loop-i : goal.invariant-loop-i
invariant-loop-i l = (l.sink.at ≤ l.fn.sink.at + reached l.policy.file.now l.policy.places.now l.policy.shape.n l.i) × Sofar (piece_at l.policy.file.now l.policy.places.now l.struck l.policy.shape.n) (length l.policy.file.now) 0 l.initial.sink l.i l.sink
