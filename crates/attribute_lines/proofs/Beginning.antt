-- The state before the first line.
use mathlib.Core.Path.{◌≡◌, refl}
use Prim.Native.Nat.{ℕ, ◌≤◌, zero-le}
use native.Mathlib.Omega.{arith}
use mathlib.Core.List.{List}
use lib.Dec.{lit≤}
use lib.ListN.{length}
use Rattle.meaning.specs.Reading.{nothing}
use Rattle.table.specs.declared.Row.{Row}
use Rattle.table.specs.Rows.{Rows}
use Rattle.layout.specs.declared.ElementPlaces.{ElementPlaces}
use Rattle.layout.specs.Places.{attributes_from, elements_to, Clear, line_start, placed, lines_to}
use Rattle.layout.proofs.Laws.{empty_stands}
use Rattle.attribute_lines.specs.Steps.{BeforeLine, beginning, read_sofar}

pub beginning_ready : (f : List ℕ) (table : List Row) (places : List ElementPlaces) → Rows table 64 → 64 ≤ length places → Clear places 0 → BeforeLine f table places beginning × (read_sofar f table places beginning ≡ nothing)
unfolding attributes_from elements_to line_start placed lines_to
beginning_ready f table places rows pairs clear = (
  record {
    in_file = record {
      inside = zero-le;
      lines_passed = lit≤ tt;
      attributes = record { standing = record { few = zero-le; each = λ i l. absurd (omega arith) }; few_values = λ i l. absurd (omega arith); small = lit≤ tt };
      space_is = refl;
      shallow = zero-le;
      few = zero-le;
    };
    rooms = record { rows = rows; pairs = pairs; named = record { room = zero-le; starts = λ i l. absurd (omega arith); ends = λ i l. absurd (omega arith) } };
    tree = empty_stands;
    lined = record { next = refl; starts = λ i l. absurd (omega arith) };
    places_are = refl;
    clear = clear;
    obliged = λ i l. absurd (omega arith);
  },
  refl,
)
