-- The place of a name among attributes.
use Prim.Native.Nat.compare
use Prim.Native.Nat.{suc}
use mathlib.Core.Path.{◌≡◌, refl, ap, ◌∙◌}
use mathlib.Core.List.{List, [], ◌∷◌}
use lib.Dec.{ltb, is_le}
use lib.ListN.{length}
use borrow.Author.Tests.{lt-ltb}
use native.Mathlib.Omega.{arith}
use Rattle.meaning.specs.Text.{Bytes, same_name}
use Rattle.meaning.specs.Model.{Attribute}
use Rattle.meaning.specs.Joining.{declared, place_in}
use Rattle.laws.proofs.Bools.{Test, passed, failed, test}

-- a name is declared if its place is one of them
pub declared_place : (attrs : List Attribute) (n : Bytes) → ltb (place_in attrs n) (length attrs) ≡ declared attrs n
declared_place [] n = refl
declared_place (a ∷ attrs) n = go (test (same_name n a.name)) (declared_place attrs n)
  where
    go : Test (same_name n a.name) → ltb (place_in attrs n) (length attrs) ≡ declared attrs n → ltb (place_in (a ∷ attrs) n) (length (a ∷ attrs)) ≡ declared (a ∷ attrs) n
    go (passed e) later = rw e (lt-ltb 0 (length (a ∷ attrs)) (omega arith))
    go (failed e) later = rw e (ap is_le (compare.suc-suc (suc (place_in attrs n)) (length attrs)) ∙ later)
