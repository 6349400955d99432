-- Names that are equal: as the tests have them and as the paper says them.
use mathlib.Core.Path.{◌≡◌, refl, sym, ap, ◌∙◌, subst}
use mathlib.Core.Logic.{◌⊎◌, inl, inr}
use Prim.Native.Nat.{ℕ, suc, ◌+◌}
use native.Mathlib.Omega.{arith}
use mathlib.Core.Bool.{true, false, not, and-false}
use mathlib.Core.List.Memᴰ
use mathlib.Core.List.{List, [], ◌∷◌, ◌++◌, Memᴰ}
use lib.Dec.{eqb}
use borrow.Author.Tests.{eqb-true, eq-eqb, lt-leb}
use Rattle.meaning.specs.Text.{Bytes, is_none, between, same, folded, lower, same_name, among_names, repeated}
use Rattle.meaning.specs.Deciding.{value_of}
use Rattle.meaning.specs.Claims.Texts.{CapitalOf, SameLetter, EqualNames, Among, DistinctNames}
use Rattle.laws.proofs.Bools.{Test, passed, failed, test, contradiction, or_false, and_true}
use Rattle.laws.proofs.Search.{any_has, any_only}
use Rattle.laws.proofs.Text.{same_true, same_refl, same_apart}
use Rattle.laws.proofs.Reflects.{Reflects, reflects, unheld, within}

-- Every name is equal to itself, and equal names are equal to the same names
pub name_refl : (n : Bytes) → same_name n n ≡ true
name_refl n = same_refl (lower n)

pub name_alike : (l m n : Bytes) → same_name l m ≡ true → same_name l n ≡ same_name m n
name_alike l m n e = ap (λ x. same x (lower n)) (same_true (lower l) (lower m) e)

pub name_swap : (m n : Bytes) → same_name m n ≡ true → same_name n m ≡ true
name_swap m n e = sym (name_alike m n m e) ∙ name_refl m

-- Bytes that are one letter
capital_folds : (x y : ℕ) → CapitalOf x y → folded x ≡ folded y
capital_folds x y (i, e) = rw (lt-leb x 90 (omega arith), and-false, (within 65 90 y).tests i) e

letter : (x y : ℕ) → Reflects (eqb (folded x) (folded y)) (SameLetter x y)
letter x y = record { holds = λ e. there (eqb-true (folded x) (folded y) e) (test (between 65 90 x)) (test (between 65 90 y)); tests = λ s. eq-eqb (folded x) (folded y) (back s) }
  where
    there : folded x ≡ folded y → Test (between 65 90 x) → Test (between 65 90 y) → SameLetter x y
    there e (passed a) (passed b) = let f : x + 32 ≡ y + 32 = rw (a, b) at e in inl (omega arith)
    there e (passed a) (failed b) = let f : x + 32 ≡ y = rw (a, b) at e in inr (inr ((within 65 90 x).holds a, sym f))
    there e (failed a) (passed b) = let f : x ≡ y + 32 = rw (a, b) at e in inr (inl ((within 65 90 y).holds b, f))
    there e (failed a) (failed b) = let f : x ≡ y = rw (a, b) at e in inl f

    back : SameLetter x y → folded x ≡ folded y
    back (inl e) = ap folded e
    back (inr (inl c)) = capital_folds x y c
    back (inr (inr c)) = sym (capital_folds y x c)

pub equal_names : (m n : Bytes) → Reflects (same_name m n) (EqualNames m n)
equal_names [] [] = record { holds = λ e. tt; tests = λ p. refl }
equal_names [] (y ∷ n) = record { holds = λ e. contradiction e refl; tests = absurd }
equal_names (x ∷ m) [] = record { holds = λ e. contradiction e refl; tests = absurd }
equal_names (x ∷ m) (y ∷ n) =
    let first = letter x y in
    let later = equal_names m n in
    record { holds = λ e. let (a, b) = and_true (eqb (folded x) (folded y)) (same_name m n) e in (first.holds a, later.holds b); tests = λ p. rw (first.tests p.0) (later.tests p.1) }

swapped : (m n : Bytes) → EqualNames m n → EqualNames n m
swapped m n e = (equal_names n m).holds (name_swap m n ((equal_names m n).tests e))

-- A name among others
pub among : (n : Bytes) (ns : List Bytes) → Reflects (among_names n ns) (Among n ns)
among n ns = record {
  holds = λ e. let (m, i, s) = any_only (same_name n) ns e in (m, i, (equal_names n m).holds s);
  tests = λ a. any_has (same_name n) a.0 a.1 ((equal_names n a.0).tests a.2);
}

pub not_among : (n : Bytes) (ns : List Bytes) → among_names n ns ≡ false → Among n ns → ⊥
not_among n ns e a = contradiction ((among n ns).tests a) e

pub new_name : (n : Bytes) (ns : List Bytes) → (Among n ns → ⊥) → among_names n ns ≡ false
new_name n ns h = unheld (among_names n ns) (Among n ns) (among n ns) h

-- a text that is not among them is none of theirs
pub not_same : (m n : Bytes) (ns : List Bytes) → among_names m ns ≡ false → among_names n ns ≡ true → same m n ≡ false
not_same m n ns h k = same_apart m n (λ e. contradiction (subst (λ x. among_names x ns ≡ true) (sym e) k) h)

-- it has a place there
pub among_placed : (k : ℕ) (n : Bytes) (ns : List Bytes) → among_names n ns ≡ not (is_none (value_of k n ns))
among_placed k n [] = refl
among_placed k n (m ∷ ns) = go (test (same_name n m)) (among_placed (suc k) n ns)
  where
    go : Test (same_name n m) → among_names n ns ≡ not (is_none (value_of (suc k) n ns)) → among_names n (m ∷ ns) ≡ not (is_none (value_of k n (m ∷ ns)))
    go (passed e) later = rw e
    go (failed e) later = rw e later

-- Names of which no two are equal
pub distinct_names : (ns : List Bytes) → repeated ns ≡ false → DistinctNames ns
distinct_names [] e = tt
distinct_names (n ∷ ns) e = let (a, b) = or_false (among_names n ns) (repeated ns) e in (not_among n ns a, distinct_names ns b)

pub names_distinct : (ns : List Bytes) → DistinctNames ns → repeated ns ≡ false
names_distinct [] d = refl
names_distinct (n ∷ ns) d = rw (new_name n ns d.0, names_distinct ns d.1)

pub some_twice : (ns : List Bytes) → Reflects (repeated ns) (DistinctNames ns → ⊥)
some_twice ns = reflects (repeated ns) (DistinctNames ns → ⊥) (λ e d. contradiction e (names_distinct ns d)) (λ e n. n (distinct_names ns e))

pub snoc_distinct : (ns : List Bytes) (n : Bytes) → DistinctNames ns → (Among n ns → ⊥) → DistinctNames (ns ++ (n ∷ []))
snoc_distinct [] n d new = (λ a. Memᴰ.not-nil a.1, tt)
snoc_distinct (m ∷ ns) n d new = (λ a. go a.0 a.2 (Memᴰ.append_cases ns a.1), snoc_distinct ns n d.1 (λ a. new (a.0, Memᴰ.tail a.1, a.2)))
  where
    go : (x : Bytes) → EqualNames m x → Memᴰ x ns ⊎ Memᴰ x (n ∷ []) → ⊥
    go x e (inl i) = d.0 (x, i, e)
    go x e (inr i) = new (m, Memᴰ.head refl, swapped m n (subst (EqualNames m) (Memᴰ.eq_of_singleton i) e))

pub distinct_new : (ns : List Bytes) (n : Bytes) (more : List Bytes) → DistinctNames (ns ++ (n ∷ more)) → Among n ns → ⊥
distinct_new [] n more d a = Memᴰ.not-nil a.1
distinct_new (m ∷ ns) n more d a = go a.0 a.2 (Memᴰ.cases_cons a.1) (distinct_new ns n more d.1)
  where
    go : (x : Bytes) → EqualNames n x → (x ≡ m) ⊎ Memᴰ x ns → (Among n ns → ⊥) → ⊥
    go x e (inl i) later = d.0 (n, Memᴰ.append_right ns (Memᴰ.head refl), swapped n m (subst (EqualNames n) i e))
    go x e (inr i) later = later (x, i, e)
