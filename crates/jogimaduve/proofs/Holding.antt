-- What the report, trimming rule by rule, a step and a proposal ask of a file that was read.
use mathlib.Core.Path.{◌≡◌, refl, sym, subst}
use Prim.Native.Nat.{ℕ}
use native.Mathlib.Omega.{arith}
use mathlib.Core.List.{List}
use lib.ListN.{length}
use Rattle.std.specs.Prelude.{Ok}
use Rattle.meaning.specs.Model.{Policy, given}
use Rattle.meaning.specs.Reading.{read}
use Rattle.table.specs.declared.Row.{Row}
use Rattle.table.specs.declared.Shape.{Shape}
use Rattle.outcomes.specs.Decided.{none_struck}
use Rattle.layout.specs.declared.ElementPlaces.{ElementPlaces}
use Rattle.layout.specs.Places.{line_start, Lined}
use Rattle.trimmed_text.specs.Held.{PolicyHeld}
use Rattle.reader.specs.declared.Policy.{Policy as PolicyRead}
use Rattle.reader.specs.Told.{policy_shape, ReadPolicy, ReadIs}
use Rattle.reader.proofs.FileRead.{naming, file_read}
use Rattle.jogimaduve.proofs.Shaping.{attributes_are, ready, hits_are, space_is}

held : (f : List ℕ) (table : List Row) (places : List ElementPlaces) (r : PolicyRead) (p : Policy) (h : read f ≡ given p) (holds : ReadPolicy f table places r p) (s : Shape) → s ≡ policy_shape r → PolicyHeld f table places s
held f table places r p h holds s shaped = subst (PolicyHeld f table places) (sym shaped)
    (record {
      policy = p;
      is_read = h;
      elements = holds.elements;
      hits_are = hits_are f table places r p h holds;
      space_is = space_is f table places r p h holds;
      len_is = sym (attributes_are f table places r p h holds);
      ready = ready f table places r p h holds (policy_shape r) refl none_struck (omega arith) refl;
      naming = naming f table places r p h holds;
      obliged = holds.obliged;
      lined = subst (λ a. Lined (line_start f) places a r.elements (length f)) (sym (attributes_are f table places r p h holds)) holds.lined;
    })

-- and of what reading it told
pub held_read : {f : List ℕ} {table₀ : List Row} {places₀ : List ElementPlaces} {table : List Row} {places : List ElementPlaces} {x : PolicyRead} → ReadIs f table₀ places₀ table places (Ok x) → {s : Shape} → s ≡ policy_shape x → PolicyHeld f table places s
held_read is_read shaped = let (p, h, holds) = file_read is_read in held _ _ _ _ p h holds _ shaped
