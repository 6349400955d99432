-- The obligations of an element, read one after the other: what each test of them leaves.
use Prim.Native.Nat.{ℕ, zero, suc, ◌+◌, ◌-◌, ◌≤◌, ◌<◌}
use mathlib.Core.Path.{◌≡◌, refl}
use mathlib.Core.Bool.{and-true}
use Rattle.std.specs.Prelude.{Option, Some, None}
use mathlib.Core.List.{[], ◌∷◌}
use native.Mathlib.Numerals.{add-one}
use native.Mathlib.Omega.{arith}
use lib.Dec.{lit≤}
use borrow.Author.Tests.{lt-ltb}
use Rattle.meaning.specs.Text.{Bytes}
use Rattle.meaning.specs.Model.{Result, refused, given, with_obligations, word_text, unless}
use Rattle.meaning.specs.Reading.{Sofar, lowest, nearest_obligations, may_have_obligations, well_followed, obligation_tests, with_element}
use Rattle.laws.proofs.Types.{Kind, Obligation, Element}
use Rattle.checking.specs.Tested.{carrying, listed, obligations_read}
use Rattle.checking.proofs.Told.{lowest_within}

-- 4 and 14 of an obligation: what it stands behind is one other at most, and so 14 goes by the kind alone
pub nearest_is : (k : Kind) (before : Option Obligation) → nearest_obligations (carrying k (listed before)).before ≡ listed before
nearest_is k (Some o) = refl
nearest_is k None = refl

pub followed : (k : Kind) (before : Option Obligation) → well_followed (carrying k (listed before)).before ≡ may_have_obligations k
followed k (Some o) = and-true (may_have_obligations k)
followed k None = and-true (may_have_obligations k)

-- a test that holds refuses
pub holds : {A : Type 0} (k n : ℕ) (r : Result A) → (k ≡ 0 → ⊥) → unless k n r ≡ refused k n
holds zero n r h = absurd (h refl)
holds (suc k) n r h = refl

-- a test of an obligation that holds has a number of 3 to 14
pub obligation_within : (s : Sofar) (w : Bytes) (o : Obligation) → (lowest (obligation_tests s w o) ≡ 0 → ⊥) → (3 ≤ lowest (obligation_tests s w o)) × (lowest (obligation_tests s w o) ≤ 14)
obligation_within s w o h = lowest_within (obligation_tests s w o) ((lit≤ tt, lit≤ tt), ((lit≤ tt, lit≤ tt), ((lit≤ tt, lit≤ tt), ((lit≤ tt, lit≤ tt), tt)))) h

-- the number that refuses the first obligation of an element, and the second
abbrev pub first_number : Element → ℕ
first_number e = lowest (obligation_tests (carrying e.kind []) (word_text e.first.word) e.first)

abbrev pub second_number : Element → ℕ
second_number e = lowest (obligation_tests (carrying e.kind (e.first ∷ [])) (word_text e.second.word) e.second)

module _ (e : Element) (line : ℕ) (s : Sofar) where
  pub none_read : e.obligations ≡ 0 → obligations_read line s e ≡ given (with_element s (with_obligations [] e))
  none_read count = rw count

  pub first_refused : (e.obligations ≡ 0 → ⊥) → (first_number e ≡ 0 → ⊥) → obligations_read line s e ≡ refused (first_number e) (line + 1)
  first_refused some h = let more : e.obligations ≡ suc (e.obligations - 1) = omega arith in rw (more, add-one line, holds (first_number e) (suc line) _ h)

  module _ (first : first_number e ≡ 0) where
    pub one_read : e.obligations ≡ 1 → obligations_read line s e ≡ given (with_element s (with_obligations (e.first ∷ []) e))
    one_read count = rw (count, first)

    pub second_refused : (e.obligations ≡ 0 → ⊥) → (e.obligations ≡ 1 → ⊥) → (second_number e ≡ 0 → ⊥) → obligations_read line s e ≡ refused (second_number e) (line + 2)
    second_refused some two h =
        let more : e.obligations ≡ suc (suc (e.obligations - 2)) = omega arith in
        let here : line + 2 ≡ suc (suc line) = omega arith in
        rw (more, first, here, holds (second_number e) (suc (suc line)) _ h)

    module _ (second : second_number e ≡ 0) where
      pub two_read : e.obligations ≡ 2 → obligations_read line s e ≡ given (with_element s (with_obligations (e.first ∷ e.second ∷ []) e))
      two_read count = rw (count, first, second)

      pub third_refused : 2 < e.obligations → obligations_read line s e ≡ refused 14 (line + 3)
      third_refused l = let more : e.obligations ≡ suc (suc (suc (e.obligations - 3))) = omega arith in rw (more, first, second, lt-ltb 2 (suc (suc (suc (e.obligations - 3)))) (omega arith))
