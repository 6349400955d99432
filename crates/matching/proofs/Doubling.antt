-- A plane repeated for each set of values of an attribute that stands before: the sets of one value more at a time.
use mathlib.Core.Path.{◌≡◌, refl, ap, ap₂, sym, ◌∙◌}
use Prim.Native.Nat.{ℕ, suc, ◌+◌, ◌-◌, ◌*◌, ◌/◌, ◌%◌, ◌^◌, ◌≤◌, ◌<◌}
use native.Mathlib.Nat.{add-mul, one-mul, mod-eq_of_lt, mul-add-mod_self_right, div-add-mod', mod-lt, div-eq_of_lt-le, div-lt_iff_lt-mul, le-mul_of_pos_right, mul-le-mul_right, two-pow-succ}
use native.Mathlib.Omega.{arith}
use mathlib.Core.Bool.{true, false, cond, ◌&&◌, ◌||◌, or-false}
use mathlib.Core.List.{List}
use lib.Dec.{ltb, eqb}
use lib.Pow.{pow_pos, pow_mono, shr-shr}
use lib.ListN.{replicate}
use borrow.Author.Tests.{le-leb, lt-leb, ltb-true, ltb-false}
use Rattle.meaning.specs.Deciding.{bit, in_field}
use Rattle.laws.proofs.Bools.{Test, passed, failed, test}
use Rattle.table.specs.Shape.{CountsSets}
use Rattle.matching.specs.Planes.{laid, raised, Clear, Plane}
use Rattle.matching.proofs.Laying.{over}
use Rattle.matching.proofs.Spreading.{spreads, clear_zeros}
use Rattle.matching.proofs.SharedValues.{set_with, set_alone, set_without}

-- the sets of k values are looked at, one less than 2^k, and the plane is repeated 2^k times
pub record Doubles (plane : List ℕ) (size mask count : ℕ) (sets all : List ℕ) (rest copies k : ℕ) : Type 0 where
  pub power : copies ≡ 2 ^ k
  pub left : rest ≡ mask / 2 ^ k
  pub some_left : copies ≤ count
  pub sets_so_far : Plane sets (copies * size - size) (spreads (in_field true mask) plane size)
  pub repeated : Plane all (copies * size) (λ m. laid plane (m % size))

-- a count of sets, and the copies below it
record Within (count copies k : ℕ) : Type 0 where
  few : k < 12
  doubled : copies + copies ≤ count + 1

within : (size count copies k : ℕ) → 0 < size → count * size ≤ 4096 → CountsSets count → copies ≡ 2 ^ k → copies ≤ count → Within count copies k
within size count copies k pos room (n, e) p l = go (test (ltb k n)) (test (ltb 12 n))
  where
    too_many : ltb 12 n ≡ true → Within count copies k
    too_many big =
        let high : 8192 ≤ 2 ^ n = pow_mono {i = 13} {j = n} (ltb-true 12 n big) in
        absurd (omega (arith, le-mul_of_pos_right count pos))

    go : Test (ltb k n) → Test (ltb 12 n) → Within count copies k
    go (passed t) (passed big) = too_many big
    go (failed t) (passed big) = too_many big
    go (failed t) (failed s) = absurd (omega (arith, pow_mono {i = n} {j = k} (ltb-false k n t)))
    go (passed t) (failed s) =
        let next : 2 ^ suc k ≤ 2 ^ n = pow_mono (ltb-true k n t) in
        record { few = omega (arith, ltb-true k n t, ltb-false 12 n s); doubled = omega (arith, two-pow-succ k) }

module _ (plane : List ℕ) (size mask count : ℕ) (pos : 0 < size) where
  pub doubles_none : Clear plane size → 0 < count → Doubles plane size mask count (replicate 64 0) plane mask 1 0
  doubles_none clear some =
      record {
        power = refl;
        left = omega arith;
        some_left = omega arith;
        sets_so_far = record { bits = λ m l. absurd (omega (arith, one-mul size)); clear = λ m a b. clear_zeros m b };
        repeated = record { bits = λ m l. sym (ap (laid plane) (mod-eq_of_lt (omega (arith, one-mul size)))); clear = λ m a b. clear m (omega (arith, one-mul size)) b };
      }

  module _ (room : count * size ≤ 4096) (counted : CountsSets count) (sets all : List ℕ) (rest copies k : ℕ) (so_far : Doubles plane size mask count sets all rest copies k) where
    abbrev width : ℕ
    width = copies * size

    -- the sets before value k
    abbrev before : ℕ
    before = width - size

    abbrev last : ℕ
    last = copies - 1

    pub copies_some : 1 ≤ copies
    copies_some = rw so_far.power (pow_pos k)

    pub copies_small : copies ≤ 4096
    copies_small = omega (arith, so_far.some_left, le-mul_of_pos_right count pos)

    bounds : Within count copies k
    bounds = within size count copies k pos room counted so_far.power so_far.some_left

    before_is : last * size ≡ before
    before_is =
        let apart : copies ≡ last + 1 = omega (arith, copies_some) in
        omega (arith, ap (λ x. x * size) apart, add-mul last 1 size, one-mul size)

    size_fits : size ≤ width
    size_fits = let one : 1 * size ≤ copies * size = mul-le-mul_right size copies_some in omega (arith, one-mul size)

    -- the sets with value k too take as much again as all copies
    next_is : copies * 2 * size - size ≡ before + width
    next_is =
        let twice : copies * 2 * size ≡ width + width = (let e : copies * 2 ≡ copies + copies = omega arith in ap (λ x. x * size) e ∙ add-mul copies copies size) in
        omega (arith, size_fits)

    next_fits : before + width ≤ 4096
    next_fits =
        let most : (copies + copies) * size ≤ (count + 1) * size = mul-le-mul_right size bounds.doubled in
        omega (arith, size_fits, add-mul copies copies size, add-mul count 1 size, one-mul size)

    pub with_value_fits : (size ≤ width) × (before + width ≤ 4096) × Clear sets before × Clear all width
    with_value_fits = (size_fits, next_fits, so_far.sets_so_far.clear, so_far.repeated.clear)

    -- what request m has at the later attributes stays if it is moved by whole copies
    later_same : (n m : ℕ) → n * size ≤ m → (m - n * size) % size ≡ m % size
    later_same n m l =
        let whole : n * size + (m - n * size) ≡ m = omega arith in
        sym (mul-add-mod_self_right n size (m - n * size)) ∙ ap (λ x. x % size) whole

    value_below : (n m : ℕ) → m < n * size → m / size < n
    value_below n m l = (div-lt_iff_lt-mul pos).1 l

    value_from : (n m : ℕ) → n * size ≤ m → n ≤ m / size
    value_from n m l = go (test (ltb (m / size) n))
      where
        go : Test (ltb (m / size) n) → n ≤ m / size
        go (passed t) = let short = (div-lt_iff_lt-mul pos).0 (ltb-true (m / size) n t) in absurd (omega arith)
        go (failed t) = ltb-false (m / size) n t

    module _ (new : List ℕ) where
      -- value k is in the mask: every set that has it matches
      next_set : bit mask k ≡ true → ((m : ℕ) → m < 4096 → laid new m ≡ over all before sets m) → Plane new (before + width) (spreads (in_field true mask) plane size)
      next_set set laying = record { bits = λ m l. go m l (test (ltb m before)); clear = λ m a b. above m (omega arith) b ∙ so_far.repeated.clear (m - before) (omega arith) (omega arith) }
        where
          above : (m : ℕ) → before ≤ m → m < 4096 → laid new m ≡ laid all (m - before)
          above m a b = laying m b ∙ rw (so_far.sets_so_far.clear m a b, le-leb before m a)

          has : (m : ℕ) → before ≤ m → m < before + width → in_field true mask (m / size) ≡ true
          has m a b =
              let low = value_from last m (omega (arith, before_is)) in
              let high = value_below (copies * 2 - 1) m (omega (arith, next_is, twice_less)) in
              set_with mask (m / size) k bounds.few (omega (arith, so_far.power)) (omega (arith, so_far.power)) set
            where
              twice_less : (copies * 2 - 1) * size ≡ copies * 2 * size - size
              twice_less =
                  let apart : copies * 2 ≡ copies * 2 - 1 + 1 = omega (arith, copies_some) in
                  omega (arith, ap (λ x. x * size) apart, add-mul (copies * 2 - 1) 1 size, one-mul size)

          go : (m : ℕ) → m < before + width → Test (ltb m before) → laid new m ≡ spreads (in_field true mask) plane size m
          go m l (passed t) =
              let h = ltb-true m before t in
              laying m (omega (arith, next_fits)) ∙ rw (lt-leb before m h) (or-false (laid sets m)) ∙ so_far.sets_so_far.bits m h
          go m l (failed t) =
              let h = ltb-false m before t in
              let same : (m - before) % size ≡ m % size = ap (λ x. (m - x) % size) (sym before_is) ∙ later_same last m (omega (arith, before_is)) in
              above m h (omega (arith, next_fits)) ∙ so_far.repeated.bits (m - before) (omega arith) ∙ ap (laid plane) same ∙ sym (rw (has m h l))

      -- it is not: a set that has it matches as it does without it
      next_unset : bit mask k ≡ false → ((m : ℕ) → m < 4096 → laid new m ≡ over sets width sets m) → Plane new (before + width) (spreads (in_field true mask) plane size)
      next_unset unset laying = record { bits = λ m l. go m l (test (ltb m before)) (test (ltb m width)); clear = λ m a b. above m (omega arith) b ∙ so_far.sets_so_far.clear (m - width) (omega arith) (omega arith) }
        where
          below : (m : ℕ) → m < width → m < 4096 → laid new m ≡ laid sets m
          below m a b = laying m b ∙ rw (lt-leb width m a) (or-false (laid sets m))

          above : (m : ℕ) → width ≤ m → m < 4096 → laid new m ≡ laid sets (m - width)
          above m a b = laying m b ∙ rw (so_far.sets_so_far.clear m (omega arith) b, le-leb width m a)

          alone : (m : ℕ) → before ≤ m → m < width → in_field true mask (m / size) ≡ false
          alone m a b =
              let low = value_from last m (omega (arith, before_is)) in
              let high = value_below copies m b in
              set_alone mask (m / size) k (omega (arith, so_far.power)) unset

          without : (m : ℕ) → width ≤ m → m < before + width → in_field true mask (m / size) ≡ in_field true mask ((m - width) / size)
          without m a b =
              let u = (m - width) / size in
              let high = value_below last (m - width) (omega (arith, before_is)) in
              let parts = div-add-mod' (m - width) size in
              let rest = mod-lt (m - width) pos in
              let place : m / size ≡ copies + u = div-eq_of_lt-le size (omega (arith, add-mul copies u size)) (omega (arith, add-mul (copies + u) 1 size, add-mul copies u size, one-mul size)) in
              set_without mask u (m / size) k (place ∙ ap (λ x. x + u) so_far.power) (omega (arith, so_far.power)) unset

          go : (m : ℕ) → m < before + width → Test (ltb m before) → Test (ltb m width) → laid new m ≡ spreads (in_field true mask) plane size m
          go m l (passed t) s = let h = ltb-true m before t in below m (omega arith) (omega (arith, next_fits)) ∙ so_far.sets_so_far.bits m h
          go m l (failed t) (passed s) =
              let h = ltb-false m before t in
              let i = ltb-true m width s in
              below m i (omega (arith, next_fits)) ∙ so_far.sets_so_far.clear m h (omega (arith, next_fits)) ∙ sym (rw (alone m h i))
          go m l (failed t) (failed s) =
              let i = ltb-false m width s in
              above m i (omega (arith, next_fits)) ∙ so_far.sets_so_far.bits (m - width) (omega arith) ∙ ap₂ ◌&&◌ (sym (without m i l)) (ap (laid plane) (later_same copies m i))

      -- so with one value more
      pub next_sets : ((m : ℕ) → m < 4096 → laid new m ≡ (laid sets m || cond (eqb (rest % 2) 1) (raised all before m) (raised sets width m))) → Plane new (copies * 2 * size - size) (spreads (in_field true mask) plane size)
      next_sets laying = rw next_is (go (test (bit mask k)))
        where
          in_mask : eqb (rest % 2) 1 ≡ bit mask k
          in_mask = ap (λ x. eqb (x % 2) 1) so_far.left

          go : Test (bit mask k) → Plane new (before + width) (spreads (in_field true mask) plane size)
          go (passed t) = next_set t (λ m l. laying m l ∙ rw (in_mask, t))
          go (failed t) = next_unset t (λ m l. laying m l ∙ rw (in_mask, t))

      -- and with the last one all are looked at
      pub sets_all : count < copies * 2 → Plane new (copies * 2 * size - size) (spreads (in_field true mask) plane size) → Plane new (count * size) (spreads (in_field true mask) plane size)
      sets_all end done =
          let all-of-them : count + 1 ≡ copies * 2 = omega (arith, bounds.doubled) in
          let total : copies * 2 * size - size ≡ count * size = omega (arith, ap (λ x. x * size) all-of-them, add-mul count 1 size, one-mul size) in
          rw total at done

    pub copies_fit : copies * 2 ≤ count → (width + width ≤ 4096) × Clear all width
    copies_fit l =
        let most : copies * 2 * size ≤ count * size = mul-le-mul_right size l in
        (omega (arith, size_fits, next_is, room), so_far.repeated.clear)

    -- The next turn
    pub doubles_next : (new more : List ℕ) → copies * 2 ≤ count → Plane new (copies * 2 * size - size) (spreads (in_field true mask) plane size)
        → ((m : ℕ) → m < 4096 → laid more m ≡ over all width all m) → Doubles plane size mask count new more (rest / 2) (copies * 2) (k + 1)
    doubles_next new more l done laying =
        let twice : copies * 2 * size ≡ width + width = omega (arith, next_is, size_fits) in
        record {
          power = rw so_far.power (omega (arith, two-pow-succ k, ap (λ x. 2 ^ x) (let e : k + 1 ≡ suc k = omega arith in e)));
          left = ap (λ x. x / 2) so_far.left ∙ shr-shr mask k 1;
          some_left = l;
          sets_so_far = done;
          repeated = rw twice (record { bits = λ m h. go m h (test (ltb m width)); clear = λ m a b. above m (omega arith) b ∙ so_far.repeated.clear (m - width) (omega arith) (omega arith) });
        }
      where
        above : (m : ℕ) → width ≤ m → m < 4096 → laid more m ≡ laid all (m - width)
        above m a b = laying m b ∙ rw (so_far.repeated.clear m a b, le-leb width m a)

        go : (m : ℕ) → m < width + width → Test (ltb m width) → laid more m ≡ laid plane (m % size)
        go m h (passed t) =
            let i = ltb-true m width t in
            laying m (omega (arith, (copies_fit l).0)) ∙ rw (lt-leb width m i) (or-false (laid all m)) ∙ so_far.repeated.bits m i
        go m h (failed t) =
            let i = ltb-false m width t in
            above m i (omega (arith, (copies_fit l).0)) ∙ so_far.repeated.bits (m - width) (omega arith) ∙ ap (laid plane) (later_same copies m i)
