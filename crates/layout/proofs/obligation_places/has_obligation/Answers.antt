-- `has_obligation` meets its contract: the name lies in the file.
use Prim.Native.Nat.{ℕ, zero, suc, ◌+◌, ◌≤◌, ◌<◌}
use mathlib.Core.Logic.{◌≢◌}
use native.Mathlib.Omega.{arith}
use mathlib.Core.List.{List}
use lib.ListN.{length}
use borrow.Author.Rules.{rules}
use Rattle.meaning.specs.Text.{Bytes}
use Rattle.layout.specs.declared.ElementPlaces.{ElementPlaces}
use Rattle.layout.specs.Places.{obligation_start, obligation_end, Obliged}
use Rattle.layout.proofs.obligation_places.has_obligation.Goals as goal

within : (end size : ℕ) → (end ≢ 0 → end + 1 < size) → end ≤ size
within zero size h = omega arith
within (suc end) size h = omega (arith, h (λ e. omega arith))

lies : {f : Bytes} {places : List ElementPlaces} {i : ℕ} (k : ℕ) → Obliged f places i → k < 2 → (obligation_start places i k ≤ obligation_end places i k) × (obligation_end places i k ≤ length f)
lies k obliged place = (obliged.starts k place, within _ _ (obliged.ends k place))

pub slice_bounds-same_name-count : goal.slice_bounds-same_name-count
slice_bounds-same_name-count c = rw c.obligation-at.ensures (lies c.args.k c.requires.0 c.requires.1).0

pub slice_bounds-same_name-start : goal.slice_bounds-same_name-start
slice_bounds-same_name-start c = let (starts, ends) = lies c.args.k c.requires.0 c.requires.1 in rw c.obligation-at.ensures (search rules)

pub slice_bounds-same_name-end : goal.slice_bounds-same_name-end
slice_bounds-same_name-end c = let (starts, ends) = lies c.args.k c.requires.0 c.requires.1 in rw c.obligation-at.ensures (search rules)
