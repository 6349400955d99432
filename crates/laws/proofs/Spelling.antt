-- Names, fields, pieces of a text and numbers in decimal, as the paper says them.
use mathlib.Core.Path.{◌≡◌, refl, sym, ap}
use mathlib.Core.Logic.{◌≢◌}
use Prim.Native.Nat.{ℕ, zero, suc, ◌+◌, ◌*◌, ◌-◌, ◌/◌, ◌%◌, ◌≤◌, ◌<◌, zero-le, suc-le-suc}
use native.Mathlib.Omega.{arith}
use mathlib.Core.Bool.{true, false, not, ◌&&◌}
use mathlib.Core.List.{List, [], ◌∷◌, ◌++◌, Memᴰ}
use lib.ListN.{length, get_or}
use lib.Dec.{eqb, ltb}
use borrow.Author.Tests.{ltb-true, ltb-false, eqb-false, not-true}
use Rattle.meaning.specs.Text.{Bytes, bytes, all, between, same, cut, name_byte, is_field, is_name, digits}
use Rattle.meaning.specs.Claims.Texts.{All, In, Field, NameByte, Name, decimal_value, Decimal, Parted, Texts}
use Rattle.laws.proofs.Bools.{Test, passed, failed, test, contradiction, and_true}
use Rattle.laws.proofs.Text.{Free, Frees, cut_some, some_piece, join_cut, cut_frees, same_true}
use Rattle.laws.proofs.Names.{equal_names, among, distinct_names, names_distinct}
use Rattle.laws.proofs.Reflects.{Reflects, either_of_four, each_one, within, equal}

-- Fields and names
field_reflects : (f : Bytes) → Reflects (is_field f) (Field f)
field_reflects [] = record { holds = λ e. contradiction e refl; tests = λ h. absurd (omega (arith, h.some_byte)) }
field_reflects (b ∷ f) =
    let body = each_one (between 33 126) (In 33 126) (within 33 126) (b ∷ f) in
    record { holds = λ e. record { some_byte = suc-le-suc zero-le; field_bytes = body.holds e }; tests = λ h. body.tests h.field_bytes }

byte_reflects : (b : ℕ) → Reflects (name_byte b) (NameByte b)
byte_reflects b = either_of_four (between 97 122 b) (between 65 90 b) (between 48 57 b) (eqb b 45) _ _ _ _ (within 97 122 b) (within 65 90 b) (within 48 57 b) (equal b 45)

name_reflects : (n : Bytes) → Reflects (is_name n) (Name n)
name_reflects [] = record { holds = λ e. contradiction e refl; tests = λ h. absurd (omega (arith, h.size.0)) }
name_reflects (b ∷ n) = record { holds = there; tests = back }
  where
    size_too : Reflects (between 1 16 (length (b ∷ n))) (In 1 16 (length (b ∷ n)))
    size_too = within 1 16 (length (b ∷ n))

    body : Reflects (all name_byte (b ∷ n)) (All NameByte (b ∷ n))
    body = each_one name_byte NameByte byte_reflects (b ∷ n)

    there : is_name (b ∷ n) ≡ true → Name (b ∷ n)
    there e =
        let (x, first) = and_true (between 1 16 (length (b ∷ n)) && all name_byte (b ∷ n)) (not (same (b ∷ []) (bytes "-"))) e in
        let (size, good) = and_true (between 1 16 (length (b ∷ n))) (all name_byte (b ∷ n)) x in
        record { size = size_too.holds size; name_bytes = body.holds good; no_hyphen_first = λ i. contradiction (ap (λ x. same (x ∷ []) (bytes "-")) i) (not-true (same (b ∷ []) (bytes "-")) first) }

    other : Name (b ∷ n) → Test (same (b ∷ []) (bytes "-")) → same (b ∷ []) (bytes "-") ≡ false
    other h (passed e) = absurd (h.no_hyphen_first (ap (λ x. get_or x 0 0) (same_true (b ∷ []) (bytes "-") e)))
    other h (failed e) = e

    back : Name (b ∷ n) → is_name (b ∷ n) ≡ true
    back h = rw (size_too.tests h.size, body.tests h.name_bytes, other h (test (same (b ∷ []) (bytes "-"))))

-- Pieces
free_apart : (b : ℕ) (p : Bytes) → Free b p → Memᴰ b p → ⊥
free_apart b [] f x'' = elim x'' [ ]
free_apart b (x ∷ p) f (Memᴰ.head e) = eqb-false x b f.0 (sym e)
free_apart b (x ∷ p) f (Memᴰ.tail m) = free_apart b p f.1 m

frees_apart : (b : ℕ) (ps : List Bytes) → Frees b ps → All (λ p. Memᴰ b p → ⊥) ps
frees_apart b [] f = tt
frees_apart b (p ∷ ps) f = (free_apart b p f.0, frees_apart b ps f.1)

parted : (b : ℕ) (t : Bytes) → Parted b t (cut b t)
parted b t = record { joined = join_cut b t; apart = frees_apart b (cut b t) (cut_frees b t); some_piece = some_piece (cut_some b t) }

-- Numbers: one digit more
value_snoc : (sofar : ℕ) (bs : Bytes) (b : ℕ) → decimal_value sofar (bs ++ (b ∷ [])) ≡ decimal_value sofar bs * 10 + (b - 48)
value_snoc sofar [] b = refl
value_snoc sofar (x ∷ bs) b = value_snoc (sofar * 10 + (x - 48)) bs b

all_snoc : (bs : Bytes) (b : ℕ) → All (In 48 57) bs → In 48 57 b → All (In 48 57) (bs ++ (b ∷ []))
all_snoc [] b h i = (i, tt)
all_snoc (x ∷ bs) b h i = (h.0, all_snoc bs b h.1 i)

first_snoc : (bs : Bytes) (b : ℕ) → get_or bs 0 48 ≢ 48 → get_or (bs ++ (b ∷ [])) 0 48 ≢ 48
first_snoc [] b h = absurd (h refl)
first_snoc (x ∷ bs) b h = h

some_snoc : (bs : Bytes) (b : ℕ) → 1 ≤ length (bs ++ (b ∷ []))
some_snoc [] b = suc-le-suc zero-le
some_snoc (x ∷ bs) b = suc-le-suc zero-le

digits_decimal : (k n : ℕ) → n < k → Decimal n (digits k n)
digits_decimal zero n l = absurd (omega arith)
digits_decimal (suc k) n l = go (test (ltb n 10)) (digits_decimal k (n / 10))
  where
    go : Test (ltb n 10) → (n / 10 < k → Decimal (n / 10) (digits k (n / 10))) → Decimal n (digits (suc k) n)
    go (passed e) later =
        let small = ltb-true n 10 e in
        rw e (record { some_digit = suc-le-suc zero-le; digits_only = ((omega arith, omega arith), tt); same_value = omega arith; no_zero_first = λ p i. omega (arith, i) })
    go (failed e) later =
        let big = ltb-false n 10 e in
        let ih = later (omega arith) in
        let front = digits k (n / 10) in
        let own = 48 + (n % 10) in
        rw e (record {
          some_digit = some_snoc front own;
          digits_only = all_snoc front own ih.digits_only (omega arith, omega arith);
          same_value = rw (value_snoc 0 front own, ih.same_value) (omega arith);
          no_zero_first = λ p. first_snoc front own (ih.no_zero_first (omega arith));
        })

pub texts : Texts
texts = record {
  fields = λ f. ((field_reflects f).holds, (field_reflects f).tests);
  names = λ n. ((name_reflects n).holds, (name_reflects n).tests);
  same_names = λ m n. ((equal_names m n).holds, (equal_names m n).tests);
  used_names = λ n ns. ((among n ns).holds, (among n ns).tests);
  no_name_twice = λ ns. (distinct_names ns, names_distinct ns);
  pieces = parted;
  decimals = λ n. digits_decimal (suc n) n (omega arith);
}
