-- Laws of fields: what is written for an element are fields, and fields hold no tab and no newline.
use mathlib.Core.Path.{◌≡◌, refl}
use Prim.Native.Nat.{ℕ, zero, suc, ◌+◌, ◌/◌, ◌%◌, ◌≤◌, ◌<◌}
use native.Mathlib.Omega.{arith}
use mathlib.Core.Bool.{Bool, true, false, not}
use mathlib.Core.List.{List, [], ◌∷◌, ◌++◌}
use lib.Dec.{eqb, leb, ltb, lit≤}
use borrow.Author.Tests.{leb-true, ltb-true, lt-ltb, le-leb, eqb-true}
use Rattle.laws.proofs.Types.{Kind, set, policy, rule, Word, deny_overrides, permit_overrides, first_applicable, only_one_applicable, Element}
use Rattle.meaning.specs.Text.{Bytes, empty, all, between, join, comma, is_field, name_byte, is_name, digits, decimal}
use Rattle.meaning.specs.Model.{Attribute, name_of, kind_text, word_text}
use Rattle.meaning.specs.Reading.{bad_masks}
use Rattle.meaning.specs.Writing.{target_text, target_texts, element_fields}
use Rattle.meaning.specs.Claims.Texts.{All}
use Rattle.meaning.specs.Claims.PolicyFile.{GoodAttribute}
use Rattle.laws.proofs.Bounds.{GoodElement, named, masks_good}
use Rattle.laws.proofs.Bools.{Test, passed, failed, test, contradiction, and_true}
use Rattle.laws.proofs.Text.{Free, Frees, NonEmptyName, name_bytes, name_of_lem}
use Rattle.laws.proofs.Names.{names_distinct}
use Rattle.laws.proofs.Targets.{Written, star, names, mask_written}

-- Fields hold no byte but 33 to 126
printable_free : (c : ℕ) (f : Bytes) → between 33 126 c ≡ false → all (between 33 126) f ≡ true → Free c f
printable_free c [] k h = tt
printable_free c (b ∷ f) k h =
    let (own, others) = and_true (between 33 126 b) (all (between 33 126) f) h in
    (go (test (eqb b c)) own, printable_free c f k others)
  where
    go : Test (eqb b c) → between 33 126 b ≡ true → eqb b c ≡ false
    go (passed e) x = contradiction (rw (eqb-true b c e) at x) k
    go (failed e) x = e

pub fields_free : (c : ℕ) (fs : List Bytes) → between 33 126 c ≡ false → all is_field fs ≡ true → Frees c fs
fields_free c [] k h = tt
fields_free c (f ∷ fs) k h =
    let (own, others) = and_true (is_field f) (all is_field fs) h in
    (printable_free c f k (and_true (not (empty f)) (all (between 33 126) f) own).1, fields_free c fs k others)

-- A name is a field, and so are names by commas
printable : (b : ℕ) → name_byte b ≡ true → between 33 126 b ≡ true
printable b h = go (test (between 97 122 b)) (test (between 65 90 b)) (test (between 48 57 b)) (test (eqb b 45))
  where
    inside : (low high : ℕ) → 33 ≤ low → high ≤ 126 → between low high b ≡ true → between 33 126 b ≡ true
    inside low high l u e =
        let (a, c) = and_true (leb low b) (leb b high) e in
        let x = leb-true low b a in
        let y = leb-true b high c in
        rw (le-leb 33 b (omega arith), le-leb b 126 (omega arith))

    go : Test (between 97 122 b) → Test (between 65 90 b) → Test (between 48 57 b) → Test (eqb b 45) → between 33 126 b ≡ true
    go (passed e) x y z = inside 97 122 (lit≤ tt) (lit≤ tt) e
    go (failed e) (passed x) y z = inside 65 90 (lit≤ tt) (lit≤ tt) x
    go (failed e) (failed x) (passed y) z = inside 48 57 (lit≤ tt) (lit≤ tt) y
    go (failed e) (failed x) (failed y) (passed z) = rw (eqb-true b 45 z)
    go (failed e) (failed x) (failed y) (failed z) = contradiction h (rw (e, x, y, z))

bytes_printable : (n : Bytes) → all name_byte n ≡ true → all (between 33 126) n ≡ true
bytes_printable [] h = refl
bytes_printable (b ∷ n) h =
    let (own, others) = and_true (name_byte b) (all name_byte n) h in
    rw (printable b own, bytes_printable n others)

pub name_field : (n : Bytes) → is_name n ≡ true → is_field n ≡ true
name_field n h = go n (name_of_lem n h)
  where
    go : (n : Bytes) → NonEmptyName n → is_field n ≡ true
    go n (name_bytes b m x y) = rw (printable b x, bytes_printable m y)

all_append : (p : ℕ → Bool) (xs ys : Bytes) → all p xs ≡ true → all p ys ≡ true → all p (xs ++ ys) ≡ true
all_append p [] ys a b = b
all_append p (x ∷ xs) ys a b = let (own, others) = and_true (p x) (all p xs) a in rw (own, all_append p xs ys others b)

-- two fields with a byte 33 to 126 between them
between_fields : (f g : Bytes) (b : ℕ) → between 33 126 b ≡ true → is_field f ≡ true → is_field g ≡ true → is_field (f ++ b ∷ g) ≡ true
between_fields [] g b k x y = contradiction x refl
between_fields (c ∷ f) g b k x y = all_append (between 33 126) (c ∷ f) (b ∷ g) x (rw (k, (and_true (not (empty g)) (all (between 33 126) g) y).1))

pub names_field : (n : Bytes) (ns : List Bytes) → all is_name (n ∷ ns) ≡ true → is_field (join comma (n ∷ ns)) ≡ true
names_field n [] h = name_field n (and_true (is_name n) true h).0
names_field n (m ∷ ns) h =
    let (own, others) = and_true (is_name n) (all is_name (m ∷ ns)) h in
    between_fields n (join comma (m ∷ ns)) comma refl (name_field n own) (names_field m ns others)

-- A number is a field; one below 10 is a digit
pub digit : (n : ℕ) → n < 10 → decimal n ≡ (48 + n) ∷ []
digit n l = rw (lt-ltb n 10 l)

digit_printable : (n : ℕ) → n < 10 → between 33 126 (48 + n) ≡ true
digit_printable n l = rw (le-leb 33 (48 + n) (omega arith), le-leb (48 + n) 126 (omega arith))

digits_printable : (k n : ℕ) → all (between 33 126) (digits k n) ≡ true
digits_printable zero n = refl
digits_printable (suc k) n = go (test (ltb n 10)) (digits_printable k (n / 10))
  where
    go : Test (ltb n 10) → all (between 33 126) (digits k (n / 10)) ≡ true → all (between 33 126) (digits (suc k) n) ≡ true
    go (passed e) later = rw (e, digit_printable n (ltb-true n 10 e))
    go (failed e) later = rw e (all_append (between 33 126) (digits k (n / 10)) ((48 + (n % 10)) ∷ []) later (rw (digit_printable (n % 10) (omega arith))))

snoc_some : (xs : Bytes) (x : ℕ) → empty (xs ++ (x ∷ [])) ≡ false
snoc_some [] x = refl
snoc_some (y ∷ ys) x = refl

pub decimal_field : (n : ℕ) → is_field (decimal n) ≡ true
decimal_field n = rw (some_digit (test (ltb n 10)), digits_printable (suc n) n)
  where
    some_digit : Test (ltb n 10) → empty (decimal n) ≡ false
    some_digit (passed e) = rw e
    some_digit (failed e) = rw e (snoc_some (digits n (n / 10)) (48 + (n % 10)))

-- The fields of an element
pub kind_field : (k : Kind) → is_field (kind_text k) ≡ true
kind_field set = refl
kind_field policy = refl
kind_field rule = refl

pub word_field : (w : Word) → is_field (word_text w) ≡ true
word_field Word.Permit = refl
word_field Word.Deny = refl
word_field deny_overrides = refl
word_field permit_overrides = refl
word_field first_applicable = refl
word_field only_one_applicable = refl

target_field : (vs : List Bytes) (m : ℕ) → Written vs m → is_field (target_text vs m) ≡ true
target_field vs m (star e) = rw e
target_field vs m (names n ns e i h) = rw (e, i, names_field n ns h)

pub targets_fields : (attrs : List Attribute) (ms : List ℕ) → All GoodAttribute attrs → bad_masks attrs ms ≡ false → all is_field (target_texts attrs ms) ≡ true
targets_fields [] ms g h = refl
targets_fields (a ∷ attrs) [] g h = contradiction refl h
targets_fields (a ∷ attrs) (m ∷ ms) g h =
    let b = masks_good a attrs m ms h in
    let w = mask_written a.values m g.0.values_named (names_distinct a.values g.0.distinct) b.not_empty b.no_high_bit in
    rw (target_field a.values m w, targets_fields attrs ms g.1 b.others)

pub element_fields_lem : (attrs : List Attribute) (e : Element) → All GoodAttribute attrs → GoodElement attrs e → all is_field (element_fields attrs e) ≡ true
element_fields_lem attrs e g h = rw (kind_field e.kind, decimal_field e.depth, name_field (name_of e) (named e h.named).is_name, word_field e.word, targets_fields attrs e.masks g h.masked)
