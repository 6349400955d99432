-- A plane repeated for each value of an attribute that stands before: left out where the value is not in the mask.
use mathlib.Core.Path.{◌≡◌, refl, ap, sym, ◌∙◌}
use Prim.Native.Nat.{ℕ, ◌+◌, ◌-◌, ◌*◌, ◌/◌, ◌%◌, ◌^◌, ◌≤◌, ◌<◌}
use native.Mathlib.Nat.{add-mul, one-mul, zero-mul, mul-le-mul_right, div-add-mod', div-eq_of_lt-le}
use native.Mathlib.Omega.{arith}
use mathlib.Core.Bool.{Bool, true, false, ◌&&◌, or-false}
use mathlib.Core.List.{List}
use lib.Dec.{ltb}
use lib.Pow.{shr-shr}
use lib.ListN.{length, replicate, get_or-replicate}
use borrow.Author.Tests.{le-leb, lt-leb, ltb-true, ltb-false, eq-eqb, ne_eqb}
use Rattle.meaning.specs.Deciding.{bit}
use Rattle.laws.proofs.Bits.{bit_zero}
use Rattle.laws.proofs.Bools.{Test, passed, failed, test}
use Rattle.matching.specs.Planes.{laid, Clear, Plane}
use Rattle.matching.proofs.Laying.{over}

-- what request m has at the attribute passes a test, and what it has at the later ones passes theirs
abbrev pub spreads : (ℕ → Bool) → List ℕ → ℕ → ℕ → Bool
spreads passes plane size m = passes (m / size) && laid plane (m % size)

-- v values are looked at, which are `at` requests
pub record Spreads (plane : List ℕ) (size mask : ℕ) (to : List ℕ) (rest at v : ℕ) : Type 0 where
  pub words : length to ≡ 64
  pub place : at ≡ v * size
  pub left : rest ≡ mask / 2 ^ v
  pub plane_so_far : Plane to at (spreads (bit mask) plane size)

pub clear_zeros : (m : ℕ) → m < 4096 → laid (replicate 64 0) m ≡ false
clear_zeros m l = rw (get_or-replicate {A = ℕ} 64 (m / 64) 0 0 (omega arith)) (bit_zero (m % 64))

module _ (plane : List ℕ) (size mask : ℕ) where
  pub spreads_none : Spreads plane size mask (replicate 64 0) mask 0 0
  spreads_none =
      record {
        words = refl;
        place = omega (arith, zero-mul size);
        left = omega arith;
        plane_so_far = record { bits = λ m l. absurd (omega arith); clear = λ m a b. clear_zeros m b };
      }

  module _ (to : List ℕ) (rest at v count : ℕ) (so_far : Spreads plane size mask to rest at v) (more : v < count) (room : count * size ≤ 4096) where
    -- what the next value takes
    next_place : at + size ≡ (v + 1) * size
    next_place = omega (arith, so_far.place, add-mul v 1 size, one-mul size)

    pub next_room : at + size ≤ 4096
    next_room = let within : (v + 1) * size ≤ count * size = mul-le-mul_right size (omega arith) in omega (arith, next_place, within)

    value : (m : ℕ) → at ≤ m → m < at + size → m / size ≡ v
    value m a b = div-eq_of_lt-le size (omega (arith, so_far.place)) (omega (arith, next_place))

    others : (m : ℕ) → at ≤ m → m < at + size → m % size ≡ m - at
    others m a b =
        let whole : v * size + m % size ≡ m = ap (λ x. x * size + m % size) (sym (value m a b)) ∙ div-add-mod' m size in
        omega (arith, so_far.place)

    next_left : rest / 2 ≡ mask / 2 ^ (v + 1)
    next_left = ap (λ x. x / 2) so_far.left ∙ shr-shr mask v 1

    -- the plane once the value is looked at
    stepped : (new : List ℕ) → length new ≡ 64
        → ((m : ℕ) → m < at → laid new m ≡ laid to m)
        → ((m : ℕ) → at ≤ m → m < at + size → laid new m ≡ (bit mask v && laid plane (m - at)))
        → ((m : ℕ) → at + size ≤ m → m < 4096 → laid new m ≡ false)
        → Spreads plane size mask new (rest / 2) (at + size) (v + 1)
    stepped new words before here clear =
        record {
          words = words;
          place = next_place;
          left = next_left;
          plane_so_far = record { bits = λ m l. go m l (test (ltb m at)); clear = clear };
        }
      where
        go : (m : ℕ) → m < at + size → Test (ltb m at) → laid new m ≡ spreads (bit mask) plane size m
        go m l (passed t) = let h = ltb-true m at t in before m h ∙ so_far.plane_so_far.bits m h
        go m l (failed t) = let h = ltb-false m at t in here m h l ∙ sym (rw (value m h l, others m h l))

    pub spreads_set : (new : List ℕ) → length new ≡ 64 → Clear plane size → bit mask v ≡ true → ((m : ℕ) → m < 4096 → laid new m ≡ over plane at to m) → Spreads plane size mask new (rest / 2) (at + size) (v + 1)
    spreads_set new words clear set laying =
        stepped new words
        (λ m l. laying m (omega (arith, next_room)) ∙ rw (lt-leb at m l) (or-false (laid to m)))
        (λ m a b. above m a (omega (arith, next_room)) ∙ sym (rw set))
        (λ m a b. above m (omega arith) b ∙ clear (m - at) (omega arith) (omega arith))
      where
        above : (m : ℕ) → at ≤ m → m < 4096 → laid new m ≡ laid plane (m - at)
        above m a b = laying m b ∙ rw (so_far.plane_so_far.clear m a b, le-leb at m a)

    pub spreads_skip : bit mask v ≡ false → Spreads plane size mask to (rest / 2) (at + size) (v + 1)
    spreads_skip unset =
        stepped to so_far.words
        (λ m l. refl)
        (λ m a b. so_far.plane_so_far.clear m a (omega (arith, next_room)) ∙ sym (rw unset))
        (λ m a b. so_far.plane_so_far.clear m (omega arith) b)

    pub value_in : rest % 2 ≡ 1 → bit mask v ≡ true
    value_in e = eq-eqb (mask / 2 ^ v % 2) 1 (ap (λ x. x % 2) (sym so_far.left) ∙ e)

    pub value_out : (rest % 2 ≡ 1 → ⊥) → bit mask v ≡ false
    value_out e = ne_eqb (mask / 2 ^ v % 2) 1 (λ one. e (ap (λ x. x % 2) so_far.left ∙ one))

  pub spreads_all : {to : List ℕ} {rest at v count : ℕ} → Spreads plane size mask to rest at v → v ≡ count → Plane to (count * size) (spreads (bit mask) plane size)
  spreads_all {to} all end = let place = all.place ∙ ap (λ x. x * size) end in rw place at all.plane_so_far
