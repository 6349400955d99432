-- Laws of targets: a field read and written again, a mask written and read again.
use mathlib.Core.Path.{◌≡◌, refl, sym, ap, ◌∙◌}
use mathlib.Core.Logic.{◌≢◌}
use Prim.Native.Nat.{ℕ, zero, suc, ◌+◌, ◌*◌, ◌/◌, ◌%◌, ◌^◌, ◌≤◌, ◌<◌, zero-le, suc-le-suc}
use native.Mathlib.Omega.{arith}
use native.Mathlib.Nat.{pow-succ'}
use mathlib.Core.Bool.{true, false}
use mathlib.Core.List.{List, [], ◌∷◌}
use mathlib.Core.Option.{Option, none, some}
use lib.ListN.{length}
use lib.Dec.{eqb}
use lib.Pow.{pow_pos, pow-lt}
use borrow.Author.Tests.{eq-eqb, ne_eqb, eqb-true, eqb-false}
use Rattle.meaning.specs.Text.{Bytes, bytes, all, same, same_name, among_names, repeated, cut, join, comma, is_name}
use Rattle.meaning.specs.Model.{full}
use Rattle.meaning.specs.Reading.{twice, mask_of, not_full, target_of}
use Rattle.meaning.specs.Writing.{value_names, target_text}
use Rattle.laws.proofs.Bools.{Test, passed, failed, test, or_false, or_true, and_true, never}
use Rattle.laws.proofs.Text.{Some, one_or_more, cut_some, join_cut, cut_join, same_true, same_refl, other_byte, NonEmptyName, name_bytes, name_of_lem, names_free}
use Rattle.laws.proofs.Names.{name_refl, not_same}

-- A bit in front of a mask
twice_some : (b m : ℕ) (o : Option ℕ) → twice b o ≡ some m → (k : ℕ) × (o ≡ some k) × (m ≡ b + 2 * k)
twice_some b m none h = never cc
twice_some b m (some k) h = (k, refl, let e : b + 2 * k ≡ m = cc in sym e)

names_zero : (vs : List Bytes) → value_names vs 0 ≡ []
names_zero [] = refl
names_zero (v ∷ vs) = names_zero vs

-- The names of a mask that was read are the names that were read, and the mask is below 2 to the values
abbrev MaskNames : List Bytes → List Bytes → ℕ → Type 0
MaskNames vs ns m = (value_names vs m ≡ ns) × (m < 2 ^ length vs)

pub mask_names : (vs ns : List Bytes) (m : ℕ) → mask_of vs ns ≡ some m → MaskNames vs ns m
mask_names [] [] m h = let e : 0 ≡ m = cc in (refl, omega arith)
mask_names [] (n ∷ ns) m h = never cc
mask_names (v ∷ vs) [] m h = let e : 0 ≡ m = cc in (rw (← e) (names_zero (v ∷ vs)), rw (← e) (pow_pos (suc (length vs))))
mask_names (v ∷ vs) (n ∷ ns) m h = go (test (same v n)) (mask_names vs ns) (mask_names vs (n ∷ ns))
  where
    go : Test (same v n) → ((m : ℕ) → mask_of vs ns ≡ some m → MaskNames vs ns m) → ((m : ℕ) → mask_of vs (n ∷ ns) ≡ some m → MaskNames vs (n ∷ ns) m) → MaskNames (v ∷ vs) (n ∷ ns) m
    go (passed e) taken passed-by =
        let (k, i, j) = twice_some 1 m (mask_of vs ns) (rw e at h) in
        let (x, y) = taken k i in
        let half : m / 2 ≡ k = omega arith in
        (rw (eq-eqb (m % 2) 1 (omega arith), half, x, same_true v n e), rw (pow-succ' 2 (length vs)) (omega arith))
    go (failed e) taken passed-by =
        let (k, i, j) = twice_some 0 m (mask_of vs (n ∷ ns)) (rw e at h) in
        let (x, y) = passed-by k i in
        let half : m / 2 ≡ k = omega arith in
        let even : m % 2 ≢ 1 = omega arith in
        (rw (ne_eqb (m % 2) 1 even, half, x), rw (pow-succ' 2 (length vs)) (omega arith))

not_full_lem : (vs : List Bytes) (o : Option ℕ) (m : ℕ) → not_full vs o ≡ some m → (o ≡ some m) × (m ≢ full vs)
not_full_lem vs none m h = never cc
not_full_lem vs (some k) m h = go (test (eqb k (full vs)))
  where
    go : Test (eqb k (full vs)) → (some k ≡ some m) × (m ≢ full vs)
    go (passed e) = let i : none ≡ some m = rw e at h in never cc
    go (failed e) =
        let i : some k ≡ some m = rw e at h in
        let j : k ≡ m = cc in
        let n : k ≢ full vs = eqb-false k (full vs) e in
        (i, λ x. n (j ∙ x))

-- A mask that names something is not empty
pub some_names : (vs : List Bytes) (m : ℕ) → Some (value_names vs m) → 0 < m
some_names vs zero s = none_named (value_names vs 0) s (names_zero vs)
  where
    none_named : (ns : List Bytes) → Some ns → ns ≡ [] → 0 < 0
    none_named ns (one_or_more x xs) e = never cc
some_names vs (suc m) s = suc-le-suc zero-le

-- A field that was read, written again; its mask is not empty where there is a value, and has no bit too high
pub record FieldRead (vs : List Bytes) (f : Bytes) (m : ℕ) : Type 0 where
  pub text_again : target_text vs m ≡ f
  pub no_high_bit : m ≤ full vs
  pub not_empty : 0 < length vs → 0 < m

pub field_read : (vs : List Bytes) (f : Bytes) (m : ℕ) → target_of vs f ≡ some m → FieldRead vs f m
field_read vs f m h = go (test (same f (bytes "*")))
  where
    go : Test (same f (bytes "*")) → FieldRead vs f m
    go (passed e) =
        let i : some (full vs) ≡ some m = rw e at h in
        let j : full vs ≡ m = cc in
        record {
          text_again = rw (eq-eqb m (full vs) (sym j), same_true f (bytes "*") e);
          no_high_bit = omega arith;
          not_empty = λ l. omega (arith, pow-lt {i = 0} {j = length vs} l);
        }
    go (failed e) =
        let (j, k) = not_full_lem vs (mask_of vs (cut comma f)) m (rw e at h) in
        let (x, y) = mask_names vs (cut comma f) m j in
        record {
          text_again = rw (ne_eqb m (full vs) k, x, join_cut comma f);
          no_high_bit = omega arith;
          not_empty = λ l. some_names vs m (rw x (cut_some comma f));
        }

-- A mask, written and read again
pub mask_nil : (vs : List Bytes) → mask_of vs [] ≡ some 0
mask_nil [] = refl
mask_nil (v ∷ vs) = refl

names_among : (vs : List Bytes) (m : ℕ) (n : Bytes) (ns : List Bytes) → value_names vs m ≡ n ∷ ns → among_names n vs ≡ true
names_among [] m n ns h = never cc
names_among (v ∷ vs) m n ns h = go (test (eqb (m % 2) 1)) (names_among vs (m / 2) n ns)
  where
    go : Test (eqb (m % 2) 1) → (value_names vs (m / 2) ≡ n ∷ ns → among_names n vs ≡ true) → among_names n (v ∷ vs) ≡ true
    go (passed e) later =
        let i : v ∷ value_names vs (m / 2) ≡ n ∷ ns = rw e at h in
        let j : v ≡ n = cc in
        rw (j, name_refl n)
    go (failed e) later = or_true (same_name n v) (among_names n vs) (later (rw e at h))

pub mask_again : (vs : List Bytes) (m : ℕ) → repeated vs ≡ false → m < 2 ^ length vs → mask_of vs (value_names vs m) ≡ some m
mask_again [] m r l = ap some (omega arith)
mask_again (v ∷ vs) m r l =
    let (once, others) = or_false (among_names v vs) (repeated vs) r in
    go once (test (eqb (m % 2) 1)) (value_names vs (m / 2)) refl (mask_again vs (m / 2) others (halved (rw (pow-succ' 2 (length vs)) at l)))
  where
    halved : m < 2 * 2 ^ length vs → m / 2 < 2 ^ length vs
    halved h = omega arith

    go : among_names v vs ≡ false → Test (eqb (m % 2) 1) → (ns : List Bytes) → value_names vs (m / 2) ≡ ns → mask_of vs (value_names vs (m / 2)) ≡ some (m / 2) → mask_of (v ∷ vs) (value_names (v ∷ vs) m) ≡ some m
    go once (passed e) ns i h = let odd = eqb-true (m % 2) 1 e in rw (e, same_refl v, h) (ap some (omega arith))
    go once (failed e) [] i h =
        let even : m % 2 ≢ 1 = eqb-false (m % 2) 1 e in
        let j : some 0 ≡ some (m / 2) = sym (mask_nil vs) ∙ rw i at h in
        let k : 0 ≡ m / 2 = cc in
        rw (e, i) (ap some (omega arith))
    go once (failed e) (n ∷ ns) i h =
        let even : m % 2 ≢ 1 = eqb-false (m % 2) 1 e in
        let h' : mask_of vs (n ∷ ns) ≡ some (m / 2) = rw i at h in
        rw (e, i, not_same v n vs once (names_among vs (m / 2) n ns i), h') (ap some (omega arith))

pub names_named : (vs : List Bytes) (m : ℕ) → all is_name vs ≡ true → all is_name (value_names vs m) ≡ true
names_named [] m h = refl
names_named (v ∷ vs) m h =
    let (own, others) = and_true (is_name v) (all is_name vs) h in
    go own (test (eqb (m % 2) 1)) (names_named vs (m / 2) others)
  where
    go : is_name v ≡ true → Test (eqb (m % 2) 1) → all is_name (value_names vs (m / 2)) ≡ true → all is_name (value_names (v ∷ vs) m) ≡ true
    go own (passed e) later = rw (e, own, later)
    go own (failed e) later = rw (e, later)

-- A mask that is not empty and not full is written as one name or more
pub data Written (vs : List Bytes) (m : ℕ) : Type 0 where
  star : eqb m (full vs) ≡ true → Written vs m
  names : (n : Bytes) (ns : List Bytes) → eqb m (full vs) ≡ false → value_names vs m ≡ n ∷ ns → all is_name (n ∷ ns) ≡ true → Written vs m

pub mask_written : (vs : List Bytes) (m : ℕ) → all is_name vs ≡ true → repeated vs ≡ false → 0 < m → m ≤ full vs → Written vs m
mask_written vs m named r p l = go (test (eqb m (full vs))) (value_names vs m) refl (names_named vs m named) (mask_again vs m r (omega (arith, pow_pos (length vs))))
  where
    go : Test (eqb m (full vs)) → (ns : List Bytes) → value_names vs m ≡ ns → all is_name (value_names vs m) ≡ true → mask_of vs (value_names vs m) ≡ some m → Written vs m
    go (passed e) ns i h k = star e
    go (failed e) [] i h k =
        let j : some 0 ≡ some m = sym (mask_nil vs) ∙ rw i at k in
        let z : 0 ≡ m = cc in
        absurd (omega arith)
    go (failed e) (n ∷ ns) i h k = names n ns e i (rw i at h)

not_star : (n : Bytes) (ns : List Bytes) → NonEmptyName n → same (join comma (n ∷ ns)) (bytes "*") ≡ false
not_star n [] (name_bytes b m x y) = rw (other_byte b 42 x refl)
not_star n (k ∷ ns) (name_bytes b m x y) = rw (other_byte b 42 x refl)

pub mask_read : (vs : List Bytes) (m : ℕ) → all is_name vs ≡ true → repeated vs ≡ false → 0 < m → m ≤ full vs → target_of vs (target_text vs m) ≡ some m
mask_read vs m named r p l = go (mask_written vs m named r p l) (mask_again vs m r (omega (arith, pow_pos (length vs))))
  where
    go : Written vs m → mask_of vs (value_names vs m) ≡ some m → target_of vs (target_text vs m) ≡ some m
    go (star e) k = rw e (ap some (sym (eqb-true m (full vs) e)))
    go (names n ns e i h) k =
        let j : mask_of vs (n ∷ ns) ≡ some m = rw i at k in
        rw (e, i, not_star n ns (name_of_lem n (and_true (is_name n) (all is_name ns) h).0), cut_join comma n ns (names_free comma (n ∷ ns) refl h), j, e)
