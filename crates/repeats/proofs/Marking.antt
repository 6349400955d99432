-- Sets of names: a mark stays, and equal names have one mark.
use mathlib.Core.Path.{◌≡◌, refl, sym, ap, ap₂, ◌∙◌}
use mathlib.Core.Bool.{Bool, true, false, ◌&&◌, ◌||◌}
use mathlib.Core.List.{List, [], ◌∷◌}
use Prim.Native.Nat.{ℕ, ◌+◌, ◌*◌, ◌/◌, ◌%◌, ◌^◌, ◌<◌}
use native.Mathlib.Nat.{one-mul}
use native.Mathlib.Omega.{arith}
use lib.ListN.{length, get_or, length-set}
use lib.Seq.{get_or-set_same, get_or-set_other}
use lib.Dec.{eqb}
use lib.Bits.{bit_or}
use lib.Pow.{shl-shr}
use borrow.Author.Tests.{eqb-true, eqb-false}
use Rattle.meaning.specs.Text.{Bytes, folded, same_name, among_names}
use Rattle.meaning.specs.Deciding.{bit}
use Rattle.laws.proofs.Bits.{bit_or_lem}
use Rattle.laws.proofs.Bools.{Test, passed, failed, test, contradiction, or_true, and_true}
use Rattle.names.proofs.Letters.{one_caseless}
use Rattle.repeats.specs.Marks.{hash_of, is_set, with_bit, first_bit, second_bit, marked, with_mark, Kept, Caught}

own_bit : (k : ℕ) → bit (2 ^ k) k ≡ true
own_bit k = ap (λ x. eqb (x % 2) 1) (ap (λ y. y / 2 ^ k) (sym (one-mul (2 ^ k))) ∙ shl-shr 1 k)

-- the words after bit p was set
module _ (ws : List ℕ) (p : ℕ) where
  pub bit_room : length (with_bit ws p) ≡ length ws
  unfolding with_bit
  bit_room = length-set ws (p / 64) (bit_or (get_or ws (p / 64) 0) (2 ^ (p % 64)))

  module _ (h : p / 64 < length ws) where
    own_word : (v : ℕ) → bit (get_or (with_bit ws p) (p / 64) 0) v ≡ (bit (get_or ws (p / 64) 0) v || bit (2 ^ (p % 64)) v)
    unfolding with_bit
    own_word v = rw (get_or-set_same ws (p / 64) (bit_or (get_or ws (p / 64) 0) (2 ^ (p % 64))) 0 h) (bit_or_lem (get_or ws (p / 64) 0) (2 ^ (p % 64)) v)

    pub bit_same : is_set (with_bit ws p) p ≡ true
    unfolding is_set
    bit_same = own_word (p % 64) ∙ or_true (bit (get_or ws (p / 64) 0) (p % 64)) (bit (2 ^ (p % 64)) (p % 64)) (own_bit (p % 64))

    pub bit_kept : (q : ℕ) → is_set ws q ≡ true → is_set (with_bit ws p) q ≡ true
    unfolding is_set with_bit
    bit_kept q e = go (test (eqb (q / 64) (p / 64)))
      where
        go : Test (eqb (q / 64) (p / 64)) → is_set (with_bit ws p) q ≡ true
        go (passed i) =
            let j = eqb-true (q / 64) (p / 64) i in
            let old : bit (get_or ws (p / 64) 0) (q % 64) ≡ true = sym (ap (λ k. bit (get_or ws k 0) (q % 64)) j) ∙ e in
            ap (λ k. bit (get_or (with_bit ws p) k 0) (q % 64)) j ∙ own_word (q % 64) ∙ ap (λ b. b || bit (2 ^ (p % 64)) (q % 64)) old
        go (failed i) = rw (get_or-set_other ws (p / 64) (q / 64) (bit_or (get_or ws (p / 64) 0) (2 ^ (p % 64))) 0 (eqb-false (q / 64) (p / 64) i)) e

both : {a b : Bool} → a ≡ true → b ≡ true → (a && b) ≡ true
both p q = rw (p, q)

pub kept_room : (t : ℕ → Bool) (ws : List ℕ) (fs : List Bytes) → Kept t ws fs → length ws ≡ 256
kept_room t ws [] k = k
kept_room t ws (f ∷ fs) (k, ks) = kept_room t ws fs ks

pub caught_room : (ws : List ℕ) (fs : List Bytes) → Caught ws fs → length ws ≡ 256
caught_room ws [] k = k
caught_room ws (f ∷ fs) (k, ks) = caught_room ws fs ks

-- the words, with room for every bit, after both bits of a hash were set
module _ (ws : List ℕ) (h : ℕ) (room : length ws ≡ 256) where
  first_room : first_bit h / 64 < length ws
  first_room = rw room (omega arith)

  second_room : second_bit h / 64 < length (with_bit ws (first_bit h))
  second_room = rw (bit_room ws (first_bit h), room) (omega arith)

  one_kept : (q : ℕ) → is_set ws q ≡ true → is_set (with_mark ws h) q ≡ true
  unfolding with_mark
  one_kept q e = bit_kept (with_bit ws (first_bit h)) (second_bit h) second_room q (bit_kept ws (first_bit h) first_room q e)

  pub mark_kept : (g : ℕ) → marked ws g ≡ true → marked (with_mark ws h) g ≡ true
  unfolding marked
  mark_kept g e =
      let set = and_true (is_set ws (first_bit g)) (is_set ws (second_bit g)) e in
      both (one_kept (first_bit g) set.0) (one_kept (second_bit g) set.1)

  pub mark_same : marked (with_mark ws h) h ≡ true
  unfolding marked with_mark
  mark_same = both
      (bit_kept (with_bit ws (first_bit h)) (second_bit h) second_room (first_bit h) (bit_same ws (first_bit h) first_room))
      (bit_same (with_bit ws (first_bit h)) (second_bit h) second_room)

  mark_room : length (with_mark ws h) ≡ 256
  unfolding with_mark
  mark_room = bit_room (with_bit ws (first_bit h)) (second_bit h) ∙ bit_room ws (first_bit h) ∙ room

  -- what a set keeps, it keeps with one more mark
  pub kept_more : (t : ℕ → Bool) (fs : List Bytes) → Kept t ws fs → Kept t (with_mark ws h) fs
  kept_more t [] k = mark_room
  kept_more t (f ∷ fs) (k, ks) = ((λ e. mark_kept (hash_of f) (k e)), kept_more t fs ks)

  pub caught_more : (fs : List Bytes) → Caught ws fs → Caught (with_mark ws h) fs
  caught_more [] k = mark_room
  caught_more (f ∷ fs) (k, ks) = ((λ e. mark_kept (hash_of f) (k e)), caught_more fs ks)

-- Equal names have one hash
pub same_hash : (m n : Bytes) → same_name m n ≡ true → hash_of m ≡ hash_of n
same_hash [] [] e = refl
same_hash [] (y ∷ n) e = contradiction e refl
same_hash (x ∷ m) [] e = contradiction e refl
same_hash (x ∷ m) (y ∷ n) e =
    let (letter, later) = and_true (eqb (folded x) (folded y)) (same_name m n) e in
    ap₂ (λ b h. (h % 4294967296 + b) * 374761393) (one_caseless x y (eqb-true (folded x) (folded y) letter)) (same_hash m n later)

-- A name without a mark is not among those that are kept
pub unmarked : (t : ℕ → Bool) (ws : List ℕ) (f : Bytes) (fs : List Bytes) → Kept t ws fs → t (hash_of f) ≡ true → marked ws (hash_of f) ≡ false → among_names f fs ≡ false
unmarked t ws f [] k p e = refl
unmarked t ws f (g ∷ fs) (k, ks) p e = go (test (same_name f g)) (unmarked t ws f fs ks p e)
  where
    go : Test (same_name f g) → among_names f fs ≡ false → among_names f (g ∷ fs) ≡ false
    go (passed s) later =
        let hash = same_hash f g s in
        contradiction (ap (marked ws) hash ∙ k (ap t (sym hash) ∙ p)) e
    go (failed s) later = rw s later
