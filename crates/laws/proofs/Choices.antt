-- What an attribute counts in the space: the numbers of its values, or of the sets of them.
use mathlib.Core.Path.{◌≡◌, refl, subst}
use mathlib.Core.Logic.{◌↔◌}
use Prim.Native.Nat.{ℕ, ◌-◌, ◌^◌, ◌≤◌, ◌<◌, suc-le-suc, zero-le}
use mathlib.Core.Bool.{true}
use mathlib.Core.List.Memᴰ
use mathlib.Core.List.{List, [], ◌∷◌, Memᴰ}
use lib.ListN.{length}
use Rattle.meaning.specs.Model.{Attribute, choices}
use Rattle.meaning.specs.Deciding.{members}
use Rattle.meaning.specs.Claims.Texts.{All}
use Rattle.meaning.specs.Claims.PolicyFile.{GoodAttribute}
use Rattle.meaning.specs.Claims.Sets.{SetOf}
use Rattle.meaning.specs.Claims.Requests.{Numbers}
use Rattle.laws.proofs.Bools.{Test, passed, failed, test, contradiction}
use Rattle.laws.proofs.Bounds.{all_has}
use Rattle.laws.proofs.Sets.{number_of_lem, set_of_lem}

module _ (a : Attribute) (g : GoodAttribute a) (v : ℕ) where
  abbrev n : ℕ
  n = length a.values

  few : a.several ≡ true → n ≤ 12
  few e = rw e at g.few_values

  has_numbers : v < choices a → (vs : List ℕ) × Numbers a v vs
  has_numbers l = go (test a.several)
    where
      go : Test a.several → (vs : List ℕ) × Numbers a v vs
      go (passed e) =
          let below : v < 2 ^ n - 1 = rw e at l in
          let (set, number) = set_of_lem n v (few e) below in
          (members v, record { of_values = set; one_value = λ x. contradiction e x; a_set = λ x. number })
      go (failed e) =
          let below : v < n = rw e at l in
          (v ∷ [], record { of_values = record { some_value = suc-le-suc zero-le; rising = (λ w m. absurd (Memᴰ.not-nil m), tt); declared = (below, tt) }; one_value = λ x. refl; a_set = λ x. contradiction x e })

  numbers_counted : (vs : List ℕ) → Numbers a v vs → v < choices a
  numbers_counted vs r = go (test a.several)
    where
      go : Test a.several → v < choices a
      go (passed e) = rw e (subst (λ w. w < 2 ^ n - 1) (r.a_set e) (number_of_lem n vs (few e) r.of_values).0)
      go (failed e) = rw e (subst (SetOf n) (r.one_value e) r.of_values).declared.0

pub counted : (attrs : List Attribute) → All GoodAttribute attrs → (a : Attribute) → Memᴰ a attrs → (v : ℕ) → (v < choices a) ↔ ((vs : List ℕ) × Numbers a v vs)
counted attrs good a m v = let g = all_has GoodAttribute a m good in (has_numbers a g v, λ (vs, r). numbers_counted a g v vs r)
