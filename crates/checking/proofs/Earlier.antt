-- How many elements and attributes there are.
use Prim.Native.Nat.{ℕ, zero, suc, ◌≤◌, ◌<◌}
use mathlib.Core.Path.{◌≡◌, refl, sym, ap}
use mathlib.Core.List.{List, [], ◌∷◌}
use native.Mathlib.Omega.{arith}
use lib.Dec.{eqb}
use lib.ListN.{length, take}
use lib.Seq.{length-take-le, get_or-take}
use borrow.Author.Tests.{eq-eqb, ne_eqb}
use Rattle.meaning.specs.Text.{empty}
use Rattle.meaning.specs.Model.{Attribute}
use Rattle.laws.proofs.Types.{Element}
use Rattle.layout.specs.Places.{value_counts}
use Rattle.checking.specs.Tested.{none, earlier, ShortNames}

pub earlier_length : (es : List Element) (n : ℕ) → length (earlier es n) ≡ n
unfolding earlier
earlier_length es zero = refl
earlier_length es (suc n) = ap suc (earlier_length es n)

-- the elements of a list before some place are those of its first part
earlier_taken : (es : List Element) (n m : ℕ) → n ≤ m → earlier (take m es) n ≡ earlier es n
unfolding earlier
earlier_taken es zero m l = refl
earlier_taken es (suc n) m l = rw (get_or-take m es n none (omega arith), earlier_taken es n m (omega arith))

module _ (es : List Element) (n : ℕ) (inside : n ≤ length es) where
  pub before_is : earlier (take n es) (length (take n es)) ≡ earlier es n
  before_is = rw (length-take-le n es inside) (earlier_taken es n n (omega arith))

  pub before_short : ShortNames es n → ShortNames (take n es) (length (take n es))
  before_short short i l = let here : i < n = omega (arith, length-take-le n es inside) in rw (get_or-take n es i none here) (short i here)

-- whether there is an attribute, by the count of their counts
pub none_counted : (counts : List ℕ) (n : ℕ) (attrs : List Attribute) → n ≤ length counts → take n counts ≡ value_counts attrs → empty attrs ≡ eqb n 0
none_counted counts n [] few are = sym (eq-eqb n 0 (omega (arith, length-take-le n counts few, ap length are)))
none_counted counts n (a ∷ attrs) few are = sym (ne_eqb n 0 (λ z. omega (arith, length-take-le n counts few, ap length are)))
