-- Names by their letters: letters in either case, and a name in small letters, place by place.
use Prim.Native.Nat.{ℕ, zero, suc, ◌+◌, ◌≤◌}
use native.Mathlib.Omega.{arith}
use mathlib.Core.Path.{◌≡◌, refl, sym, ap, ◌∙◌}
use mathlib.Core.Logic.{◌≢◌}
use mathlib.Core.List.{[], ◌∷◌}
use mathlib.Core.Bool.{false, not}
use lib.ListN.{length, get_or, length-map}
use lib.Dec.{eqb}
use borrow.Author.Tests.{eqb-true, not-false}
use Rattle.meaning.specs.Text.{Bytes, between, folded, lower, same_name}
use Rattle.laws.proofs.Bools.{Test, passed, failed, test}
use Rattle.laws.proofs.Text.{same_length}
use Rattle.laws.proofs.Search.{first_none}
use Rattle.laws.proofs.Reflects.{within}
use Rattle.names.specs.Letters.{caseless}

-- The bit that tells the cases of a letter apart, letter by letter
cases_share : (b : ℕ) → 65 ≤ b → b ≤ 90 → caseless (b + 32) ≡ caseless b
cases_share b l u = eqb-true _ _ (not-false _ (first_none (λ n. not (eqb (caseless (n + 32)) (caseless n))) 65 26 refl b l (omega arith)))

fold_caseless : (b : ℕ) → caseless (folded b) ≡ caseless b
fold_caseless b = go (test (between 65 90 b))
  where
    go : Test (between 65 90 b) → caseless (folded b) ≡ caseless b
    go (passed e) = let (l, u) = (within 65 90 b).holds e in rw e (cases_share b l u)
    go (failed e) = rw e

-- one letter has it set alike, so what it tells apart are two
pub one_caseless : (x y : ℕ) → folded x ≡ folded y → caseless x ≡ caseless y
one_caseless x y e = sym (fold_caseless x) ∙ ap caseless e ∙ fold_caseless y

pub other_caseless : (x y : ℕ) → caseless x ≢ caseless y → folded x ≢ folded y
other_caseless x y n e = n (one_caseless x y e)

pub lower_at : (s : Bytes) (i : ℕ) → get_or (lower s) i 0 ≡ folded (get_or s i 0)
lower_at [] i = refl
lower_at (x ∷ s) zero = refl
lower_at (x ∷ s) (suc i) = lower_at s i

pub lower_length : (s : Bytes) → length (lower s) ≡ length s
lower_length s = length-map s folded

pub other_length : (a b : Bytes) → (length a ≡ length b → ⊥) → same_name a b ≡ false
other_length a b n = same_length (lower a) (lower b) (λ e. n (sym (lower_length a) ∙ e ∙ lower_length b))
