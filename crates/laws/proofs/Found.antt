-- What code returned as found, back to what the definitions find.
use mathlib.Core.Path.{◌≡◌, refl}
use mathlib.Core.Option.{Option as Maybe, none, some}
use Rattle.std.specs.Prelude.{Some, None}
use Rattle.laws.specs.Found.{found}

module _ {A : Type 0} where
  pub found_some : {x : A} (o : Maybe A) → found o ≡ Some x → o ≡ some x
  found_some none e = cc
  found_some (some y) e = cc

  pub found_none : (o : Maybe A) → found o ≡ None → o ≡ none
  found_none none e = refl
  found_none (some y) e = cc
