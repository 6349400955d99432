-- The words of requests, made of the rows of elements.
use Prim.Native.Nat.{ℕ, zero, suc, ◌+◌, ◌*◌, ◌/◌, ◌%◌, ◌^◌, ◌≤◌, ◌<◌}
use mathlib.Core.Path.{◌≡◌, refl, sym, ap, ◌∙◌}
use mathlib.Core.Bool.{Bool}
use mathlib.Core.List.{List}
use native.Mathlib.Nat.{pow-succ', pow-le-pow_right, lt_of_lt_of_le}
use native.Mathlib.Omega.{arith}
use lib.Dec.{eqb, ltb}
use lib.ListN.{length, get_or, set, length-set, replicate, length-replicate, get_or-replicate}
use lib.Seq.{get_or-set_same, get_or-set_other}
use borrow.Author.Tests.{eqb-true, eqb-false, ltb-true, ltb-false}
use Rattle.meaning.specs.Deciding.{bit}
use Rattle.meaning.specs.declared.Element.{Element}
use Rattle.laws.proofs.Bits.{bit_zero, bit_above}
use Rattle.laws.proofs.Bools.{Test, passed, failed, test}
use Rattle.table.specs.declared.Row.{Row}
use Rattle.table.specs.Words.{word_in}
use Rattle.matching.specs.Hits.{bit_of}
use Rattle.rows.specs.Words.{word_from, applying_at}
use Rattle.rows.specs.Rows.{Applied}
use Rattle.blocks.proofs.LowBits.{bit_lowest, bit_higher}
use Rattle.rows.proofs.Marks.{bit_word}
use Rattle.rows.proofs.Making.{word_small}
use Rattle.segments.specs.Across.{word_across, Column}
use Rattle.segments.specs.Turning.{Turned}

-- words of tests that agree
pub word_alike : (f g : ℕ → Bool) (i k : ℕ) → ((j : ℕ) → i ≤ j → j < i + k → f j ≡ g j) → word_from f i k ≡ word_from g i k
unfolding word_from
word_alike f g i zero same = refl
word_alike f g i (suc k) same = rw (same i (omega arith) (omega arith), word_alike f g (suc i) k (λ j l u. same j (omega arith) (omega arith)))

-- the first i words of a block are there
pub record Columned (rows : List (List ℕ)) (words : List ℕ) (block i : ℕ) : Type 0 where
  pub size : length words ≡ 64
  pub column : Column rows i block words

module _ (rows : List (List ℕ)) (block : ℕ) where
  pub columned_none : Columned rows (replicate 64 0) block 0
  columned_none =
      record {
        size = length-replicate {A = ℕ} 64 0;
        column = record { each = λ i l. absurd (omega arith); behind = λ i l u. get_or-replicate {A = ℕ} 64 i 0 0 u };
      }

  pub columned_next : (words : List ℕ) (i : ℕ) → i < 64 → Columned rows words block i → Columned rows (set words i (word_in rows i block)) block (i + 1)
  columned_next words i l so_far =
      record {
        size = length-set words i (word_in rows i block) ∙ so_far.size;
        column = record { each = λ j u. go j u (test (eqb j i)); behind = λ j u v. get_or-set_other words i j _ 0 (omega arith) ∙ so_far.column.behind j (omega arith) v };
      }
    where
      go : (j : ℕ) → j < i + 1 → Test (eqb j i) → get_or (set words i (word_in rows i block)) j 0 ≡ word_in rows j block
      go j u (passed e) = rw (eqb-true j i e) (get_or-set_same words i _ 0 (omega (arith, so_far.size)))
      go j u (failed e) = let other = eqb-false j i e in get_or-set_other words i j _ 0 other ∙ so_far.column.each j (omega (arith, other))

-- numbers of the same bits are equal
digit_same : (a b : ℕ) → eqb (a % 2) 1 ≡ eqb (b % 2) 1 → a % 2 ≡ b % 2
digit_same a b e = go (test (eqb (a % 2) 1))
  where
    go : Test (eqb (a % 2) 1) → a % 2 ≡ b % 2
    go (passed t) = let x = eqb-true (a % 2) 1 t in let y = eqb-true (b % 2) 1 (sym e ∙ t) in omega arith
    go (failed t) = let x = eqb-false (a % 2) 1 t in let y = eqb-false (b % 2) 1 (sym e ∙ t) in omega (arith, x, y)

same_bits : (k a b : ℕ) → a < 2 ^ k → b < 2 ^ k → ((v : ℕ) → v < k → bit a v ≡ bit b v) → a ≡ b
same_bits zero a b la lb same = omega arith
same_bits (suc k) a b la lb same =
    let lowest = digit_same a b (sym (bit_lowest a) ∙ same 0 (omega arith) ∙ bit_lowest b) in
    let halves = same_bits k (a / 2) (b / 2) (omega (arith, pow-succ' 2 k)) (omega (arith, pow-succ' 2 k)) (λ v l. sym (bit_higher a v) ∙ same (suc v) (omega arith) ∙ bit_higher b v) in
    omega arith

-- The words of a block turned round are those of its requests
abbrev pub Across : List (List ℕ) → ℕ → List ℕ → ℕ → Type 0
Across rows n words block = (v : ℕ) → v < 64 → get_or words v 0 ≡ word_across rows n (64 * block + v)

pub across_turned : (rows : List (List ℕ)) (elements words : List ℕ) (n block : ℕ) → n ≤ 64 → Column rows n block elements → Turned elements words → Across rows n words block
across_turned rows elements words n block few column turned v l =
    same_bits 64 (get_or words v 0) (word_across rows n (64 * block + v)) (turned.fits v l) (lt_of_lt_of_le (word_small _ 0 n) (pow-le-pow_right {n = 2} (omega arith) few))
    (λ i u. turned.bits v i l u ∙ go i u (test (ltb i n)))
  where
    request : (64 * block + v) / 64 ≡ block
    request = omega arith

    place : (64 * block + v) % 64 ≡ v
    place = omega arith

    go : (i : ℕ) → i < 64 → Test (ltb i n) → bit (get_or elements i 0) v ≡ bit (word_across rows n (64 * block + v)) i
    go i u (passed e) =
        ap (λ w. bit w v) (column.each i (ltb-true i n e))
        ∙ sym (bit_word (λ i. bit_of rows i (64 * block + v)) n i (ltb-true i n e) ∙ rw (request, place))
    go i u (failed e) =
        let past = ltb-false i n e in
        ap (λ w. bit w v) (column.behind i past u) ∙ bit_zero v ∙ sym (bit_above (word_across rows n (64 * block + v)) n i (word_small _ 0 n) past)

-- Request m, in its block; the next one is of the same block, or the first of one
module _ (rows : List (List ℕ)) (words : List ℕ) (n m : ℕ) where
  pub across_here : Across rows n words (m / 64) → get_or words (m % 64) 0 ≡ word_across rows n m
  across_here across = let at : 64 * (m / 64) + m % 64 ≡ m = omega arith in rw at at (across (m % 64) (omega arith))

  pub across_later : Across rows n words (m / 64) → ((m + 1) % 64 ≡ 0 → ⊥) → Across rows n words ((m + 1) / 64)
  across_later across inside = let same : (m + 1) / 64 ≡ m / 64 = omega arith in rw same across

pub across_same : (rows : List (List ℕ)) (n block : ℕ) {words other : List ℕ} → words ≡ other → Across rows n other block → Across rows n words block
across_same rows n block same across = rw same across

-- the rows of a table give the words of its requests
pub across_applying : (t : List Row) (n : ℕ) (hit : ℕ → Element → Bool) (space : ℕ) (rows : List (List ℕ)) → Applied t n hit space rows → (m : ℕ) → m < space → word_across rows n m ≡ applying_at t n hit m
across_applying t n hit space rows applied m l = word_alike _ _ 0 n (λ i a u. applied i m (omega arith) l)
