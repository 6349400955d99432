-- The lines of the pairs of a parent's children, pair by pair.
use mathlib.Core.Path.{◌≡◌}
use mathlib.Core.Bool.{true, false}
use Prim.Native.Nat.{ℕ, ◌+◌, ◌-◌, ◌≤◌, ◌<◌}
use mathlib.Core.List.{List, []}
use borrow.Author.Tests.{lt-ltb, le-ltb}
use Rattle.std.specs.Prelude.{Option}
use Rattle.meaning.specs.Text.{Bytes, gathered, counting}
use Rattle.printing.specs.declared.Sink.{Sink}
use Rattle.printing.specs.Puts.{Puts}
use Rattle.report_lines.specs.Lines.{is_parent, pair_at, conflict_row, conflict_line, later_line, later_lines}
use Rattle.layout.specs.declared.ElementPlaces.{ElementPlaces}

module _ (f : Bytes) (places : List ElementPlaces) (n : ℕ) (parents : List (Option ℕ)) (pairs : List (List ℕ)) (space i j : ℕ) where
  -- k is no child of i, or a child that is in no conflict with j, or in one
  pub not_child : (k : ℕ) → is_parent parents k i ≡ false → later_line f places n parents pairs space i j k ≡ []
  unfolding later_line
  not_child k e = rw e

  module _ (k m : ℕ) (child : is_parent parents k i ≡ true) (is : m ≡ pair_at f places pairs j k) where
    pub no_conflict : space ≤ m → later_line f places n parents pairs space i j k ≡ []
    unfolding later_line conflict_line
    no_conflict l = rw (child, ← is, le-ltb m space l)

    pub is_conflict : {a b : Sink} → m < space → Puts a (conflict_row f places (record { parent = i; earlier = j; later = k; request = m })) b × (b.at ≤ a.at + 500) → Puts a (later_line f places n parents pairs space i j k) b × (b.at ≤ a.at + 500)
    unfolding later_line conflict_line
    is_conflict l w = rw (child, ← is, lt-ltb m space l) w

  -- j is a child or not
  pub no_pairs : is_parent parents j i ≡ false → later_lines f places n parents pairs space i j ≡ []
  unfolding later_lines
  no_pairs e = rw e

  pub all_pairs : {a b : Sink} → is_parent parents j i ≡ true → Puts a (gathered (later_line f places n parents pairs space i j) (counting (j + 1) (n - (j + 1)))) b → Puts a (later_lines f places n parents pairs space i j) b
  unfolding later_lines
  all_pairs e w = rw e w
