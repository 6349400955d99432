-- A word's bits are the tests that it was made of.
use mathlib.Core.Path.{◌≡◌, refl, sym, ap, ◌∙◌}
use Prim.Native.Nat.{ℕ, zero, suc, ◌+◌, ◌*◌, ◌/◌, ◌%◌, ◌<◌}
use native.Mathlib.Omega.{arith}
use mathlib.Core.Bool.{Bool, true, false, cond}
use mathlib.Core.List.{List, [], ◌∷◌, map}
use lib.Dec.{eqb}
use lib.ListN.{length, get_or}
use Rattle.meaning.specs.Text.{counting}
use Rattle.meaning.specs.Deciding.{bit}
use Rattle.laws.proofs.Bits.{bit_zero}
use Rattle.blocks.proofs.LowBits.{bit_lowest, bit_higher}
use Rattle.rows.specs.Words.{marks, word_from}

abbrev one_if : Bool → ℕ
one_if b = cond b 1 0

small : (b : Bool) → one_if b < 2
small true = omega arith
small false = omega arith

lowest : (b : Bool) (m : ℕ) → eqb ((one_if b + 2 * m) % 2) 1 ≡ b
lowest true m = let odd : (1 + 2 * m) % 2 ≡ 1 = omega arith in rw odd
lowest false m = let even : (0 + 2 * m) % 2 ≡ 0 = omega arith in rw even

halved : (b : Bool) (m : ℕ) → (one_if b + 2 * m) / 2 ≡ m
halved b m = let l = small b in omega arith

pub bit_mark : (bs : List Bool) (i : ℕ) → bit (marks bs) i ≡ get_or bs i false
bit_mark [] i = bit_zero i
bit_mark (b ∷ bs) zero = bit_lowest (one_if b + 2 * marks bs) ∙ lowest b (marks bs)
bit_mark (b ∷ bs) (suc i) = bit_higher (one_if b + 2 * marks bs) i ∙ ap (λ y. bit y i) (halved b (marks bs)) ∙ bit_mark bs i

-- the word of one test
pub test_at : (test : ℕ → Bool) (i k j : ℕ) → j < k → get_or (map test (counting i k)) j false ≡ test (i + j)
test_at test i zero j l = absurd (omega arith)
test_at test i (suc k) zero l = let here : i + 0 ≡ i = omega arith in rw here
test_at test i (suc k) (suc j) l = let next : suc i + j ≡ i + suc j = omega arith in test_at test (suc i) k j (omega arith) ∙ ap test next

pub bit_word : (test : ℕ → Bool) (n i : ℕ) → i < n → bit (word_from test 0 n) i ≡ test i
unfolding word_from
bit_word test n i l = let here : 0 + i ≡ i = omega arith in bit_mark (map test (counting 0 n)) i ∙ test_at test 0 n i l ∙ ap test here

-- equal words are made of equal tests
pub same_marks : (bs cs : List Bool) → length bs ≡ length cs → marks bs ≡ marks cs → bs ≡ cs
same_marks [] [] l h = refl
same_marks [] (c ∷ cs) l h = absurd (omega arith)
same_marks (b ∷ bs) [] l h = absurd (omega arith)
same_marks (b ∷ bs) (c ∷ cs) l h =
    let here : b ≡ c = sym (lowest b (marks bs)) ∙ ap (λ y. eqb (y % 2) 1) h ∙ lowest c (marks cs) in
    let behind : marks bs ≡ marks cs = sym (halved b (marks bs)) ∙ ap (λ y. y / 2) h ∙ halved c (marks cs) in
    rw (here, same_marks bs cs (omega arith) behind)
