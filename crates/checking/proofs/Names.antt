-- Test 3 by the parts of a name, and test 4 element by element.
use Prim.Native.Nat.{ℕ, zero, suc, ◌+◌, ◌≤◌, ◌<◌}
use mathlib.Core.Path.{◌≡◌, refl}
use mathlib.Core.Logic.{◌⊎◌, inl, inr}
use native.Mathlib.Nat.{eq-or-lt_of_le}
use native.Mathlib.Numerals.{add-one}
use mathlib.Core.Bool.{true, false, and-false, or-true}
use mathlib.Core.List.{List, map}
use native.Mathlib.Omega.{arith}
use lib.ListN.{take, drop, get_or}
use borrow.Author.Tests.{le-leb, lt-leb}
use Rattle.meaning.specs.Text.{Bytes, same_name, among_names, is_name}
use Rattle.meaning.specs.Model.{name_of}
use Rattle.meaning.specs.Reading.{non_zero, bad_stored}
use Rattle.laws.proofs.Types.{Element}
use Rattle.checking.specs.Tested.{none, earlier}

-- a name of no byte, one too long, one with other bytes, and one that only the bytes behind it can spoil
module _ (len : ℕ) (name : Bytes) where
  pub name_empty : len < 1 → bad_stored len name ≡ true
  name_empty l = rw (lt-leb 1 len l)

  pub name_long : 16 < len → bad_stored len name ≡ true
  name_long l = rw (lt-leb len 16 l, and-false)

  pub name_wrong : is_name (take len name) ≡ false → bad_stored len name ≡ true
  name_wrong other = rw (other, or-true)

  pub name_right : 1 ≤ len → len ≤ 16 → is_name (take len name) ≡ true → bad_stored len name ≡ non_zero (drop len name)
  name_right long short good = rw (le-leb 1 len long, le-leb len 16 short, good)

-- a name looked for element by element
module _ (es : List Element) (name : Bytes) where
  pub name_none : among_names name (map name_of (earlier es 0)) ≡ false
  unfolding earlier
  name_none = refl

  module _ (i : ℕ) where
    pub name_hit : same_name name (name_of (get_or es i none)) ≡ true → among_names name (map name_of (earlier es (i + 1))) ≡ true
    unfolding earlier
    name_hit same = rw (add-one i, same)

    pub name_miss : same_name name (name_of (get_or es i none)) ≡ false → among_names name (map name_of (earlier es i)) ≡ false → among_names name (map name_of (earlier es (i + 1))) ≡ false
    unfolding earlier
    name_miss other before = rw (add-one i, other, before)

  -- one that was found is found among more elements, too
  pub name_among : (i n : ℕ) → i ≤ n → among_names name (map name_of (earlier es i)) ≡ true → among_names name (map name_of (earlier es n)) ≡ true
  unfolding earlier
  name_among i n l found = go n (eq-or-lt_of_le l)
    where
      go : (n : ℕ) → (i ≡ n) ⊎ (i < n) → among_names name (map name_of (earlier es n)) ≡ true
      go n (inl e) = rw (← e) found
      go zero (inr l) = absurd (omega arith)
      go (suc n) (inr l) = rw (go n (eq-or-lt_of_le (omega arith)), or-true)
