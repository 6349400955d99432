-- The masks before i are laid, and target i starts at `at` if it is there.
use Prim.Native.Nat.{◌<◌}
use Rattle.meaning.specs.Text.{cut, tab}
use Rattle.text.proofs.Fields.{Starts}
use Rattle.tree_fields.proofs.TargetWalk.{Walked}
use Rattle.tree_fields.proofs.HeadedLine.masks.Given as goal

abbrev pub invariant-loop-i : goal.invariant-loop-i
invariant-loop-i l = Walked l.file l.a (cut tab l.targets) l.masks l.i × (l.i < l.a.len → Starts l.targets l.i l.at)
