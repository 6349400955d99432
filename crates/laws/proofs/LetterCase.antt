-- Texts in small letters: what is done to a text is done to the text in small letters.
use mathlib.Core.Path.{◌≡◌, refl, ap, ap₂, ◌∙◌}
use Prim.Native.Nat.{ℕ, ◌+◌, ◌/◌, ◌%◌, ◌<◌}
use native.Mathlib.Omega.{arith}
use mathlib.Core.Bool.{Bool, true, false, ◌&&◌, ◌||◌}
use mathlib.Core.List.{List, [], ◌∷◌, ◌++◌, map}
use lib.Dec.{eqb, leb}
use borrow.Author.Tests.{ne_eqb, leb-true, lt-leb}
use Rattle.meaning.specs.Text.{Bytes, same, between, folded, lower, among_names, repeated, longer, cut, join}
use Rattle.meaning.specs.Writing.{value_names}
use Rattle.meaning.specs.Claims.Texts.{EqualNames}
use Rattle.laws.proofs.Bools.{Test, passed, failed, test, and_true}
use Rattle.laws.proofs.Text.{same_true, same_refl}
use Rattle.laws.proofs.Names.{equal_names}

-- Names are equal exactly if they are the same in small letters
pub equal_lower : (m n : Bytes) → EqualNames m n → lower m ≡ lower n
equal_lower m n e = same_true (lower m) (lower n) ((equal_names m n).tests e)

pub lower_equal : (m n : Bytes) → lower m ≡ lower n → EqualNames m n
lower_equal m n e = (equal_names m n).holds (rw e (same_refl (lower n)))

folded_twice : (b : ℕ) → folded (folded b) ≡ folded b
folded_twice b = go (test (between 65 90 b))
  where
    go : Test (between 65 90 b) → folded (folded b) ≡ folded b
    go (passed e) =
        let low = leb-true 65 b (and_true (leb 65 b) (leb b 90) e).0 in
        let above : leb (b + 32) 90 ≡ false = lt-leb (b + 32) 90 (omega arith) in
        rw (e, beyond (b + 32) above)
      where
        beyond : (c : ℕ) → leb c 90 ≡ false → between 65 90 c ≡ false
        beyond c h = go' (leb 65 c)
          where
            go' : (a : Bool) → (a && leb c 90) ≡ false
            go' true = h
            go' false = refl
    go (failed e) = rw (e, e)

lower_lower : (n : Bytes) → lower (lower n) ≡ lower n
lower_lower [] = refl
lower_lower (b ∷ n) = ap₂ (λ x y. x ∷ y) (folded_twice b) (lower_lower n)

lower_append : (m n : Bytes) → lower (m ++ n) ≡ lower m ++ lower n
lower_append [] n = refl
lower_append (b ∷ m) n = ap (λ x. folded b ∷ x) (lower_append m n)

pub lower_join : (b : ℕ) (ps : List Bytes) → folded b ≡ b → lower (join b ps) ≡ join b (map lower ps)
lower_join b [] e = refl
lower_join b (p ∷ []) e = refl
lower_join b (p ∷ q ∷ ps) e = lower_append p (b ∷ join b (q ∷ ps)) ∙ ap₂ (λ x y. lower p ++ x ∷ y) e (lower_join b (q ∷ ps) e)

-- A name that stands twice
among_lower : (n : Bytes) (ns : List Bytes) → among_names (lower n) (map lower ns) ≡ among_names n ns
among_lower n [] = refl
among_lower n (m ∷ ns) = ap₂ (λ x y. same x y || among_names (lower n) (map lower ns)) (lower_lower n) (lower_lower m) ∙ ap (λ x. same (lower n) (lower m) || x) (among_lower n ns)

pub repeated_lower : (ns : List Bytes) → repeated (map lower ns) ≡ repeated ns
repeated_lower [] = refl
repeated_lower (n ∷ ns) = ap₂ (λ x y. x || y) (among_lower n ns) (repeated_lower ns)

-- The names of a mask's values
pub names_lower : (vs : List Bytes) (m : ℕ) → value_names (map lower vs) m ≡ map lower (value_names vs m)
names_lower [] m = refl
names_lower (v ∷ vs) m = go (test (eqb (m % 2) 1)) (names_lower vs (m / 2))
  where
    go : Test (eqb (m % 2) 1) → value_names (map lower vs) (m / 2) ≡ map lower (value_names vs (m / 2)) → value_names (map lower (v ∷ vs)) m ≡ map lower (value_names (v ∷ vs) m)
    go (passed e) h = rw (e, h)
    go (failed e) h = rw (e, h)

-- The pieces of a text that a byte parts which is no letter
folded_cut : (b x : ℕ) → b < 65 → eqb (folded x) b ≡ eqb x b
folded_cut b x l = go (test (between 65 90 x))
  where
    go : Test (between 65 90 x) → eqb (folded x) b ≡ eqb x b
    go (passed e) = let low = leb-true 65 x (and_true (leb 65 x) (leb x 90) e).0 in rw (e, ne_eqb (x + 32) b (omega arith), ne_eqb x b (omega arith))
    go (failed e) = rw e

lower_longer : (x : ℕ) (ps : List Bytes) → map lower (longer x ps) ≡ longer (folded x) (map lower ps)
lower_longer x [] = refl
lower_longer x (p ∷ ps) = refl

pub lower_cut : (b : ℕ) (f : Bytes) → b < 65 → map lower (cut b f) ≡ cut b (lower f)
lower_cut b [] l = refl
lower_cut b (x ∷ f) l = go (test (eqb x b)) (lower_cut b f l)
  where
    go : Test (eqb x b) → map lower (cut b f) ≡ cut b (lower f) → map lower (cut b (x ∷ f)) ≡ cut b (lower (x ∷ f))
    go (passed e) ih = rw (folded_cut b x l, e, ih)
    go (failed e) ih = rw (folded_cut b x l, e) (lower_longer x (cut b f) ∙ ap (longer (folded x)) ih)
