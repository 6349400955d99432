-- What a search gives, by its number or by the end.
use mathlib.Core.Path.{◌≡◌, refl}
use Prim.Native.Nat.{ℕ}
use native.Mathlib.Omega.{arith}
use mathlib.Core.Bool.{Bool, cond}
use mathlib.Core.List.{List, []}
use mathlib.Core.Option.{Option, none, some}
use lib.Dec.{ltb}
use borrow.Author.Tests.{lt-ltb, le-ltb}
use Rattle.meaning.specs.Text.{if_some, first_from}
use Rattle.laws.proofs.Search.{first_some}
use Rattle.table.specs.Tree.{place_or}

pub first_or : {B : Type 0} (t : ℕ → Bool) (s : ℕ) (F : ℕ → List B) → cond (ltb (place_or s (first_from t 0 s)) s) (F (place_or s (first_from t 0 s))) [] ≡ if_some (first_from t 0 s) F
first_or t s F = go (first_from t 0 s) refl
  where
    go : (o : Option ℕ) → first_from t 0 s ≡ o → cond (ltb (place_or s (first_from t 0 s)) s) (F (place_or s (first_from t 0 s))) [] ≡ if_some (first_from t 0 s) F
    go none e = rw (e, le-ltb s s (omega arith))
    go (some m) e = rw (e, lt-ltb m s (omega (arith, (first_some t 0 s m e).high)))
