-- Texts are the same where a test of their bytes passes at each place.
use mathlib.Core.Path.{◌≡◌, sym, ap, ◌∙◌}
use mathlib.Core.Bool.{Bool, true, false}
use Prim.Native.Nat.{ℕ}
use native.Mathlib.Omega.{arith}
use lib.ListN.{length, get_or}
use lib.Dec.{eqb}
use borrow.Author.Tests.{eqb-true, eqb-false}
use Rattle.meaning.specs.Text.{Bytes, same}
use Rattle.laws.proofs.Bools.{Test, passed, failed, test}
use Rattle.laws.proofs.Text.{same_apart, same_bytes}
use Rattle.text.specs.Alike.{Alike}

-- the test is of m and n, of which each byte comes from the one at its place
pub alike_same : {answers : ℕ → ℕ → Bool → Type 0} (a b m n : Bytes) (r : Bool) → Alike answers a b r → length m ≡ length n → length m ≡ length a
    → ((k : ℕ) (t : Bool) → answers (get_or a k 0) (get_or b k 0) t → t ≡ eqb (get_or m k 0) (get_or n k 0)) → r ≡ same m n
alike_same a b m n r w one_length size tests = go (test r)
  where
    go : Test r → r ≡ same m n
    go (passed e) = e ∙ sym (same_bytes m n one_length (λ k l. eqb-true _ _ (sym (tests k true (w.each e k (omega arith))))))
    go (failed e) =
        let (k, (l, p)) = w.apart e in
        e ∙ sym (same_apart m n (λ q. eqb-false _ _ (sym (tests k false p)) (ap (λ s. get_or s k 0) q)))
