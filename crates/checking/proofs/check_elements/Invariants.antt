-- `check_elements` meets its contract. The loop keeps the answer: that for the elements from the one at hand on, behind those before,
-- the first of them on the line at hand.
use Prim.Native.Nat.{ℕ, suc, ◌+◌, ◌*◌, ◌≤◌, ◌<◌}
use mathlib.Core.Path.{◌≡◌}
use mathlib.Core.List.{List, []}
use lib.ListN.{take, get_or}
use Rattle.meaning.specs.Model.{Attribute}
use Rattle.meaning.specs.Writing.{read_elements}
use Rattle.meaning.specs.Claims.Writing.{Shaped}
use Rattle.layout.specs.Places.{value_counts}
use Rattle.checking.specs.Tested.{none, Begun}
use Rattle.checking.proofs.Walk.{remaining}
use Rattle.checking.proofs.check_elements.Given as goal

abbrev pub invariant-loop-e : goal.invariant-loop-e
invariant-loop-e l = record {
  count : l.tree.len ≡ l.e-index;
  begun : Begun l.list l.tree;
  low : l.line ≤ 7 + 3 * l.tree.len;
  shaped : (k : ℕ) → k < l.e-index → Shaped (get_or l.list k none);
  left : (attrs : List Attribute) → take l.values.len l.values.counts ≡ value_counts attrs → read_elements (suc l.values.len) (record { attributes = attrs; before = [] }) l.list ≡ remaining l.line attrs l.list l.tree.len;
}
