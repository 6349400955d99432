-- What telling pairs asks of a file that was read.
use mathlib.Core.Path.{◌≡◌, refl, sym, subst}
use Prim.Native.Nat.{ℕ}
use native.Mathlib.Omega.{arith}
use mathlib.Core.List.{List}
use Rattle.std.specs.Prelude.{Ok}
use Rattle.meaning.specs.Model.{Policy, given}
use Rattle.meaning.specs.Reading.{read}
use Rattle.table.specs.declared.Row.{Row}
use Rattle.table.specs.declared.Shape.{Shape}
use Rattle.outcomes.specs.Decided.{none_struck}
use Rattle.value_pairs.specs.Held.{PolicyDecided}
use Rattle.reader.specs.declared.Policy.{Policy as PolicyRead}
use Rattle.reader.specs.Told.{policy_shape, ReadPolicy, ReadIs}
use Rattle.reader.proofs.FileRead.{file_read}
use Rattle.jogimaduve.proofs.Shaping.{ready, counts_are, decided_are}
use Rattle.layout.specs.declared.ElementPlaces.{ElementPlaces}

held : (f : List ℕ) (table : List Row) (places : List ElementPlaces) (r : PolicyRead) (p : Policy) (h : read f ≡ given p) (holds : ReadPolicy f table places r p) (s : Shape) → s ≡ policy_shape r → PolicyDecided f r.attributes table s
held f table places r p h holds s shaped = subst (PolicyDecided f r.attributes table) (sym shaped)
    (record {
      policy = p;
      is_read = h;
      attributes = holds.attributes;
      standing = holds.spaced.standing;
      counted = refl;
      counts = counts_are f table places r p h holds;
      ready = ready f table places r p h holds (policy_shape r) refl none_struck (omega arith) refl;
      decided = λ m l. decided_are f table places r p h holds m;
    })

-- and of what reading it told
pub held_read : {f : List ℕ} {table₀ : List Row} {places₀ : List ElementPlaces} {table : List Row} {places : List ElementPlaces} {x : PolicyRead} → ReadIs f table₀ places₀ table places (Ok x) → {s : Shape} → s ≡ policy_shape x → PolicyDecided f x.attributes table s
held_read is_read shaped = let (p, h, holds) = file_read is_read in held _ _ _ _ p h holds _ shaped
