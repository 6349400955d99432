-- The end of a file.
use mathlib.Core.Path.{◌≡◌, refl, ◌∙◌, subst}
use Prim.Native.Nat.{ℕ, ◌≤◌, zero-le}
use native.Mathlib.Omega.{arith}
use mathlib.Core.Bool.{cond}
use mathlib.Core.List.{List}
use lib.Dec.{eqb, lit≤}
use lib.ListN.{length}
use borrow.Author.Tests.{eqb-true, eqb-false}
use Rattle.meaning.specs.Model.{refused}
use Rattle.meaning.specs.Reading.{finished}
use Rattle.laws.proofs.Bools.{Test, passed, failed, test}
use Rattle.table.specs.declared.Row.{Row}
use Rattle.layout.specs.declared.ElementPlaces.{ElementPlaces}
use Rattle.layout.specs.Places.{Lined, line_start}
use Rattle.attribute_lines.specs.declared.State.{State}
use Rattle.attribute_lines.proofs.AttributeLines.{no_elements_lem}
use Rattle.attribute_lines.specs.Steps.{BeforeLine, read_sofar}
use Rattle.reader.specs.Told.{ended_at, ReadAs}

-- at the end: bytes behind the last newline, no tree line, or the policy
pub ending : (f : List ℕ) (table : List Row) (places : List ElementPlaces) (st : State) (end : ℕ) → BeforeLine f table places st → st.line ≤ 16385 → end ≡ length f
    → ReadAs f table places (ended_at st end) (cond (eqb st.at end) (finished (read_sofar f table places st)) (refused 2 st.line))
ending f table places st end ready l whole = go (test (eqb st.at end)) (test (eqb st.tree.len 0))
  where
    go : Test (eqb st.at end) → Test (eqb st.tree.len 0) → ReadAs f table places (ended_at st end) (cond (eqb st.at end) (finished (read_sofar f table places st)) (refused 2 st.line))
    go (failed more) t = rw more (record { is = refl; low = lit≤ tt; small = l })
    go (passed e) (passed none) = rw (e, no_elements_lem f table places st.tree.len, none) (record { is = refl; low = lit≤ tt; small = zero-le })
    go (passed e) (failed some) =
        let many = eqb-false st.tree.len 0 some in
        rw (e, no_elements_lem f table places st.tree.len, some) (record {
          attributes = refl;
          elements = refl;
          space_is = ready.in_file.space_is;
          spaced = ready.in_file.attributes;
          some = omega arith;
          rooms = ready.rooms;
          lined = subst (Lined (line_start f) places st.attributes.len st.tree.len) (eqb-true st.at end e ∙ whole) ready.lined;
          places_are = ready.places_are;
          obliged = ready.obliged;
        })
