-- Equal words have equal bytes, and two words cover a text of 8 to 16 bytes.
use mathlib.Core.Path.{◌≡◌}
use mathlib.Core.Bool.{true}
use Prim.Native.Nat.{ℕ, zero, suc, ◌+◌, ◌*◌, ◌-◌, ◌≤◌, ◌<◌}
use native.Mathlib.Nat.{zero-add, add-zero}
use native.Mathlib.Omega.{arith}
use lib.ListN.{length, get_or}
use lib.Dec.{ltb}
use borrow.Author.Tests.{ltb-true, ltb-false}
use Rattle.meaning.specs.Text.{Bytes, same}
use Rattle.laws.proofs.Bools.{Test, passed, failed, test}
use Rattle.laws.proofs.Text.{same_bytes}
use Rattle.comparing.specs.Words.{word_at, BytesAt}

lowest_byte : (x y m n : ℕ) → x < 256 → y < 256 → x + 256 * m ≡ y + 256 * n → (x ≡ y) × (m ≡ n)
lowest_byte x y m n h k e = (omega arith, omega arith)

-- what holds at 0 and, one higher, below n
abbrev higher : (ℕ → Type 0) → ℕ → Type 0
higher P k = P (suc k)

one_more : (P : ℕ → Type 0) {n : ℕ} → P 0 → ((k : ℕ) → k < n → higher P k) → (k : ℕ) → k < suc n → P k
one_more P p q zero h = p
one_more P p q (suc k) h = q k (omega arith)

module _ (a b : Bytes) where
  word_bytes : (i : ℕ) → BytesAt a i → BytesAt b i → word_at a i ≡ word_at b i → (k : ℕ) → k < 8 → get_or a (i + k) 0 ≡ get_or b (i + k) 0
  unfolding word_at BytesAt
  word_bytes i (a0, a1, a2, a3, a4, a5, a6, a7) (b0, b1, b2, b3, b4, b5, b6, b7) e =
      let e0 = lowest_byte _ _ _ _ a0 b0 e in
      let e1 = lowest_byte _ _ _ _ a1 b1 e0.1 in
      let e2 = lowest_byte _ _ _ _ a2 b2 e1.1 in
      let e3 = lowest_byte _ _ _ _ a3 b3 e2.1 in
      let e4 = lowest_byte _ _ _ _ a4 b4 e3.1 in
      let e5 = lowest_byte _ _ _ _ a5 b5 e4.1 in
      let e6 = lowest_byte _ _ _ _ a6 b6 e5.1 in
      let at : ℕ → Type 0 = λ k. get_or a (i + k) 0 ≡ get_or b (i + k) 0 in
      let at2 = higher (higher at) in
      let at4 = higher (higher at2) in
      let at6 = higher (higher at4) in
      let six = one_more at6 e6.0 (one_more (higher at6) {n = 0} e6.1 (λ k h. absurd (omega arith))) in
      let four = one_more at4 e4.0 (one_more (higher at4) e5.0 six) in
      let two = one_more at2 e2.0 (one_more (higher at2) e3.0 four) in
      one_more at (rw add-zero e0.0) (one_more (higher at) e1.0 two)

  -- the words at both ends of a text
  module _ (last : ℕ) (l : length a ≡ length b) (h : length a ≡ last + 8) (k : last ≤ 8) where
    pub same_words : BytesAt a last → BytesAt b last → word_at a last ≡ word_at b last → BytesAt a 0 → BytesAt b 0 → word_at a 0 ≡ word_at b 0 → same a b ≡ true
    same_words p q e r s f = same_bytes a b l (λ n m. go n m (test (ltb n 8)))
      where
        go : (n : ℕ) → n < length a → Test (ltb n 8) → get_or a n 0 ≡ get_or b n 0
        go n m (passed t) = rw zero-add at (word_bytes 0 r s f n (ltb-true n 8 t))
        go n m (failed t) =
            let o : 8 ≤ n = ltb-false n 8 t in
            let j : last + (n - last) ≡ n = omega arith in
            rw j at (word_bytes last p q e (n - last) (omega arith))
