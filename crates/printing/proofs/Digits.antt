-- A number's digits: the last one behind those of its tenth.
use mathlib.Core.Path.{◌≡◌, ap}
use mathlib.Core.List.{[], ◌∷◌, ◌++◌}
use Prim.Native.Nat.{ℕ, zero, suc, ◌+◌, ◌/◌, ◌%◌, ◌^◌, ◌≤◌, ◌<◌}
use native.Mathlib.Nat.{pow-suc}
use native.Mathlib.Omega.{arith}
use lib.Dec.{ltb}
use lib.ListN.{length, length-append}
use borrow.Author.Tests.{ltb-true, ltb-false, le-ltb}
use Rattle.meaning.specs.Text.{digits, decimal}
use Rattle.laws.proofs.Bools.{Test, passed, failed, test}
use Rattle.laws.proofs.Fields.{digit}
use Rattle.printing.specs.declared.Sink.{Sink}
use Rattle.printing.specs.Puts.{Puts}
use Rattle.printing.proofs.Laws.{then}

-- more fuel than digits changes nothing
digits_enough : (k l n : ℕ) → n < k → n < l → digits k n ≡ digits l n
digits_enough zero l n h i = absurd (omega arith)
digits_enough (suc k) zero n h i = absurd (omega arith)
digits_enough (suc k) (suc l) n h i = go (test (ltb n 10)) (digits_enough k l (n / 10))
  where
    go : Test (ltb n 10) → (n / 10 < k → n / 10 < l → digits k (n / 10) ≡ digits l (n / 10)) → digits (suc k) n ≡ digits (suc l) n
    go (passed e) later = rw e
    go (failed e) later = let many = ltb-false n 10 e in rw (e, later (omega arith) (omega arith))

last_digit : (n : ℕ) → 10 ≤ n → decimal n ≡ decimal (n / 10) ++ ((48 + (n % 10)) ∷ [])
last_digit n h = rw (le-ltb n 10 h) (ap (λ ds. ds ++ ((48 + (n % 10)) ∷ [])) (digits_enough n (suc (n / 10)) (n / 10) (omega arith) (omega arith)))

-- a number of one digit, and one with a digit more than its tenth
pub one_digit : {a b : Sink} (n : ℕ) → n < 10 → Puts a ((48 + (n % 10)) ∷ []) b → Puts a (decimal n) b × (b.at ≤ a.at + n / 10 + 1)
one_digit n few p = let same : n % 10 ≡ n = omega arith in (rw (digit n few, ← same) p, omega (arith, p.wrote.moved))

pub digit_more : {a b c : Sink} (n : ℕ) → 10 ≤ n → Puts a (decimal (n / 10)) b × (b.at ≤ a.at + n / 10 / 10 + 1) → Puts b ((48 + (n % 10)) ∷ []) c → Puts a (decimal n) c × (c.at ≤ a.at + n / 10 + 1)
digit_more n many (p, l) q = (rw (last_digit n many) (then p q), omega (arith, l, q.wrote.moved))

-- a number below a power of ten has no more digits than its exponent
pub decimal_short : (k n : ℕ) → n < 10 ^ suc k → length (decimal n) ≤ suc k
decimal_short zero n h = rw (digit n (omega arith)) (omega arith)
decimal_short (suc k) n h = go (test (ltb n 10)) (decimal_short k (n / 10))
  where
    go : Test (ltb n 10) → (n / 10 < 10 ^ suc k → length (decimal (n / 10)) ≤ suc k) → length (decimal n) ≤ suc (suc k)
    go (passed e) fewer = rw (digit n (ltb-true n 10 e)) (omega arith)
    go (failed e) fewer =
        let less : n / 10 < 10 ^ suc k = omega (arith, pow-suc 10 (suc k)) in
        rw (last_digit n (ltb-false n 10 e)) (omega (arith, length-append (decimal (n / 10)) ((48 + (n % 10)) ∷ []), fewer less))
