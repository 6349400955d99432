-- The writer makes just the policy file that has the attribute lines and the elements.
use mathlib.Core.Path.{◌≡◌, sym, ap₂, ◌∙◌}
use mathlib.Core.Logic.{◌↔◌}
use Prim.Native.Nat.{ℕ, ◌≤◌}
use mathlib.Core.List.{List}
use lib.Dec.{ltb}
use lib.ListN.{length}
use borrow.Author.Tests.{ltb-false, le-ltb}
use Rattle.meaning.specs.Text.{Bytes}
use Rattle.meaning.specs.Model.{refused, given}
use Rattle.meaning.specs.Reading.{read}
use Rattle.meaning.specs.Report.{fitted}
use Rattle.meaning.specs.Writing.{write_file}
use Rattle.meaning.specs.Claims.Texts.{All}
use Rattle.meaning.specs.Claims.Writing.{Shaped, Made}
use Rattle.laws.proofs.Types.{Element}
use Rattle.laws.proofs.Bools.{Test, passed, failed, test}
use Rattle.laws.proofs.Reading.{refused-given, given_given, step_then}
use Rattle.laws.proofs.Reread.{round_trips}
use Rattle.laws.proofs.WellFormed.{well_formed}

room_enough : (room : ℕ) (t : Bytes) → fitted room t ≡ given t → length t ≤ room
room_enough room t h = go (test (ltb room (length t)))
  where
    go : Test (ltb room (length t)) → length t ≤ room
    go (passed e) = let x : refused 11 (length t) ≡ given t = rw e at h in refused-given x
    go (failed e) = ltb-false room (length t) e

pub made : (room : ℕ) (header : Bytes) (es : List Element) (t : Bytes) → All Shaped es → write_file room header es ≡ given t ↔ Made room header es t
made room header es t shaped = (there, back)
  where
    there : write_file room header es ≡ given t → Made room header es t
    there h =
        let (elements-again, lines-again) = round_trips.reread room header t es shaped h in
        let (p, a, b) = step_then (read t) (λ p. given p.elements) es elements-again in
        let same = given_given b in
        record {
          policy = p;
          is_file = (well_formed t p).0 a;
          same_elements = same;
          same_lines = lines-again;
          fits = room_enough room t (sym (round_trips.rewritten t p a room) ∙ ap₂ (write_file room) lines-again same ∙ h);
        }

    back : Made room header es t → write_file room header es ≡ given t
    back m =
        ap₂ (write_file room) (sym m.same_lines) (sym m.same_elements) ∙ round_trips.rewritten t m.policy ((well_formed t m.policy).1 m.is_file) room
        ∙ rw (le-ltb room (length t) m.fits)
