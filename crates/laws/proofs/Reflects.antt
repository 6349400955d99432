-- Tests that pass exactly if something holds, and rows of the table beside them.
use mathlib.Core.Path.{◌≡◌, refl, sym, ◌∙◌, subst}
use mathlib.Core.Logic.{◌⊎◌, inl, inr}
use Prim.Native.Nat.{ℕ, suc, ◌≤◌, ◌<◌, zero-le, suc-le-suc}
use native.Mathlib.Omega.{arith}
use mathlib.Core.Bool.{Bool, true, false, not, ◌||◌, false≢true}
use mathlib.Core.List.{List, [], ◌∷◌}
use lib.ListN.{length}
use lib.Dec.{eqb, leb, ltb}
use borrow.Author.Tests.{leb-true, le-leb, ltb-true, lt-ltb, eqb-true, eq-eqb, not-true, not-false}
use Rattle.meaning.specs.Text.{Bytes, empty, all, between, same}
use Rattle.meaning.specs.Reading.{Tests, lowest}
use Rattle.meaning.specs.Claims.Texts.{All, In}
use Rattle.meaning.specs.Claims.Refusals.{Lowest}
use Rattle.laws.proofs.Bools.{Test, passed, failed, test, contradiction, and_true}
use Rattle.laws.proofs.Text.{same_true, same_refl}

-- A test that passes exactly if something holds
pub record Reflects (b : Bool) (R : Type 0) : Type 0 where
  pub holds : b ≡ true → R
  pub tests : R → b ≡ true

-- it is enough that it fails only where that does not hold
pub reflects : (b : Bool) (R : Type 0) → (b ≡ true → R) → (b ≡ false → R → ⊥) → Reflects b R
reflects b R h n = record { holds = h; tests = λ r. go r (test b) }
  where
    go : R → Test b → b ≡ true
    go r (passed e) = e
    go r (failed e) = absurd (n e r)

-- and it may be said otherwise
pub restated : (b : Bool) (P Q : Type 0) → (P → Q) → (Q → P) → Reflects b P → Reflects b Q
restated b P Q to back x = record { holds = λ e. to (x.holds e); tests = λ q. x.tests (back q) }

pub refutes : (b : Bool) (R : Type 0) → Reflects b R → Reflects (not b) (R → ⊥)
refutes b R x = reflects (not b) (R → ⊥) (λ e r. contradiction (x.tests r) (not-true b e)) (λ e n. n (x.holds (not-false b e)))

pub unheld : (b : Bool) (R : Type 0) → Reflects b R → (R → ⊥) → b ≡ false
unheld b R x n = not-true b ((refutes b R x).tests n)

pub either : (a b : Bool) (P Q : Type 0) → Reflects a P → Reflects b Q → Reflects (a || b) (P ⊎ Q)
either true b P Q x y = record { holds = λ e. inl (x.holds refl); tests = λ r. refl }
either false b P Q x y = record { holds = λ e. inr (y.holds e); tests = go }
  where
    go : P ⊎ Q → b ≡ true
    go (inl p) = absurd (false≢true (x.tests p))
    go (inr q) = y.tests q

pub opposite : (b : Bool) → Reflects (not b) (b ≡ false)
opposite b = record { holds = not-true b; tests = λ e. rw e }

pub never_holds : Reflects false ⊥
never_holds = record { holds = λ e. false≢true e; tests = absurd }

pub at_least : (n m : ℕ) → Reflects (leb n m) (n ≤ m)
at_least n m = record { holds = leb-true n m; tests = le-leb n m }

pub more_than : (n m : ℕ) → Reflects (ltb n m) (n < m)
more_than n m = record { holds = ltb-true n m; tests = lt-ltb n m }

pub not_nothing : {A : Type 0} (xs : List A) → Reflects (not (empty xs)) (1 ≤ length xs)
not_nothing [] = record { holds = λ e. absurd (false≢true e); tests = λ l. absurd (omega arith) }
not_nothing (x ∷ xs) = record { holds = λ e. suc-le-suc zero-le; tests = λ l. refl }

pub is_nothing : {A : Type 0} (xs : List A) → Reflects (empty xs) (length xs ≡ 0)
is_nothing [] = record { holds = λ e. refl; tests = λ l. refl }
is_nothing (x ∷ xs) = record { holds = λ e. absurd (false≢true e); tests = λ l. absurd (omega (arith, l)) }

pub each_one : {A : Type 0} (t : A → Bool) (P : A → Type 0) → ((x : A) → Reflects (t x) (P x)) → (xs : List A) → Reflects (all t xs) (All P xs)
each_one t P h [] = record { holds = λ e. tt; tests = λ a. refl }
each_one t P h (x ∷ xs) =
    let later = each_one t P h xs in
    record { holds = λ e. let (a, b) = and_true (t x) (all t xs) e in ((h x).holds a, later.holds b); tests = λ a. rw ((h x).tests a.0) (later.tests a.1) }

pub within : (low high n : ℕ) → Reflects (between low high n) (In low high n)
within low high n = record { holds = λ e. let (a, b) = and_true (leb low n) (leb n high) e in (leb-true low n a, leb-true n high b); tests = λ i. rw (le-leb low n i.0, le-leb n high i.1) }

pub equal : (n m : ℕ) → Reflects (eqb n m) (n ≡ m)
equal n m = record { holds = eqb-true n m; tests = eq-eqb n m }

pub same_text : (m n : Bytes) → Reflects (same m n) (m ≡ n)
same_text m n = record { holds = same_true m n; tests = λ e. subst (λ x. same m x ≡ true) e (same_refl m) }

pub either_of_three : (a b c : Bool) (P Q R : Type 0) → Reflects a P → Reflects b Q → Reflects c R → Reflects (a || b || c) (P ⊎ (Q ⊎ R))
either_of_three true b c P Q R x y z = either true (b || c) P (Q ⊎ R) x (either b c Q R y z)
either_of_three false b c P Q R x y z = either false (b || c) P (Q ⊎ R) x (either b c Q R y z)

pub either_of_four : (a b c d : Bool) (P Q R S : Type 0) → Reflects a P → Reflects b Q → Reflects c R → Reflects d S → Reflects (a || b || c || d) (P ⊎ (Q ⊎ (R ⊎ S)))
either_of_four true b c d P Q R S x y z w = either true (b || c || d) P (Q ⊎ (R ⊎ S)) x (either_of_three b c d Q R S y z w)
either_of_four false b c d P Q R S x y z w = either false (b || c || d) P (Q ⊎ (R ⊎ S)) x (either_of_three b c d Q R S y z w)

-- Tests and rows, one for one
abbrev pub Matches : Tests → List (ℕ × Type 0) → Type 0
Matches [] [] = Unit {0}
Matches [] (r ∷ rs) = ⊥
Matches (t ∷ ts) [] = ⊥
Matches (t ∷ ts) (r ∷ rs) = (t.0 ≡ r.0) × Reflects t.1 r.1 × Matches ts rs

pub lowest_row : (ts : Tests) (rs : List (ℕ × Type 0)) (n : ℕ) → Matches ts rs → lowest ts ≡ suc n → Lowest (suc n) rs
lowest_row [] [] n m e = absurd (omega arith)
lowest_row [] (r ∷ rs) n m e = absurd m
lowest_row (t ∷ ts) [] n m e = absurd m
lowest_row (t ∷ ts) (r ∷ rs) n m e = go (test t.1) (lowest_row ts rs n m.2)
  where
    go : Test t.1 → (lowest ts ≡ suc n → Lowest (suc n) rs) → Lowest (suc n) (r ∷ rs)
    go (passed p) later = let i : t.0 ≡ suc n = rw p at e in inl (m.1.holds p, sym i ∙ m.0)
    go (failed p) later = inr (λ x. contradiction (m.1.tests x) p, later (rw p at e))

pub row_lowest : (ts : Tests) (rs : List (ℕ × Type 0)) (n : ℕ) → Matches ts rs → Lowest n rs → lowest ts ≡ n
row_lowest [] [] n m l = absurd l
row_lowest [] (r ∷ rs) n m l = absurd m
row_lowest (t ∷ ts) [] n m l = absurd m
row_lowest (t ∷ ts) (r ∷ rs) n m (inl (x, e)) = rw (m.1.tests x) (m.0 ∙ sym e)
row_lowest (t ∷ ts) (r ∷ rs) n m (inr (unheld, l)) = go (test t.1) (row_lowest ts rs n m.2 l)
  where
    go : Test t.1 → lowest ts ≡ n → lowest (t ∷ ts) ≡ n
    go (passed p) later = absurd (unheld (m.1.holds p))
    go (failed p) later = rw p later

-- the number of a row is not 0
abbrev pub NumberedRows : List (ℕ × Type 0) → Type 0
NumberedRows [] = Unit {0}
NumberedRows (r ∷ rs) = (1 ≤ r.0) × NumberedRows rs

pub row_number : (rs : List (ℕ × Type 0)) (n : ℕ) → NumberedRows rs → Lowest n rs → 1 ≤ n
row_number [] n b l = absurd l
row_number (r ∷ rs) n b (inl (x, e)) = omega (arith, b.0, e)
row_number (r ∷ rs) n b (inr (x, l)) = row_number rs n b.1 l
