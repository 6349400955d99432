-- A plane copied to a row: what stands there, and elsewhere. Rows laid down so, one after the other.
use Prim.Native.Nat.{ℕ, ◌+◌, ◌-◌, ◌*◌, ◌/◌, ◌%◌, ◌≤◌, ◌<◌}
use mathlib.Core.Path.{◌≡◌, refl, sym, ap, ◌∙◌}
use mathlib.Core.Bool.{false}
use mathlib.Core.List.{List, [], ◌++◌}
use native.Mathlib.Omega.{arith}
use lib.Dec.{eqb}
use lib.ListN.{length, take, drop, set, get_or, get_or-append}
use lib.Seq.{get_or-set_same, get_or-set_other, get_or-take, get_or-drop, get_or-append-add, length-take-le}
use borrow.Author.Tests.{eqb-true, eqb-false}
use Rattle.meaning.specs.Deciding.{bit}
use Rattle.laws.proofs.Bools.{Test, passed, failed, test}
use Rattle.table.specs.Words.{word_in}
use Rattle.matching.specs.Planes.{Clear}
use Rattle.matching.specs.Hits.{bit_of, words_of, Rest}

-- the first words of row i are those of the plane, and all others are as they were
pub record PlaneCopied (plane : List ℕ) (words i : ℕ) (old new : List (List ℕ)) : Type 0 where
  pub here : (b : ℕ) → b < words → word_in new i b ≡ get_or plane b 0
  pub others : (j b : ℕ) → (j ≡ i → words ≤ b) → word_in new j b ≡ word_in old j b

module _ (plane : List ℕ) (words i : ℕ) (old : List (List ℕ)) (row : List ℕ) (is : row ≡ take words plane ++ drop words (get_or old i [])) (inside : i < length old) (enough : words ≤ length plane) where
  size : length (take words plane) ≡ words
  size = length-take-le words plane enough

  own_row : (b : ℕ) → word_in (set old i row) i b ≡ get_or (take words plane ++ drop words (get_or old i [])) b 0
  own_row b = ap (λ r. get_or r b 0) (get_or-set_same old i row [] inside ∙ is)

  first : (b : ℕ) → b < words → word_in (set old i row) i b ≡ get_or plane b 0
  first b l = own_row b ∙ get_or-append (take words plane) (drop words (get_or old i [])) 0 b (omega (arith, size)) ∙ get_or-take words plane b 0 l

  behind : (b : ℕ) → words ≤ b → word_in (set old i row) i b ≡ word_in old i b
  behind b l =
      let place : words + (b - words) ≡ b = omega arith in
      rw place at
      (own_row (words + (b - words))
      ∙ ap (λ n. get_or (take words plane ++ drop words (get_or old i [])) (n + (b - words)) 0) (sym size)
      ∙ get_or-append-add (take words plane) (drop words (get_or old i [])) (b - words) 0
      ∙ get_or-drop words (get_or old i []) (b - words) 0)

  pub copied_is : PlaneCopied plane words i old (set old i row)
  copied_is = record { here = first; others = λ j b apart. go j b apart (test (eqb j i)) }
    where
      go : (j b : ℕ) → (j ≡ i → words ≤ b) → Test (eqb j i) → word_in (set old i row) j b ≡ word_in old j b
      go j b apart (passed e) = let same = eqb-true j i e in rw same (behind b (apart same))
      go j b apart (failed e) = ap (λ r. get_or r b 0) (get_or-set_other old i j row [] (eqb-false j i e))

module _ (space : ℕ) (old : List (List ℕ)) where
  pub rest_none : Rest 0 space old old
  rest_none = record { same_length = refl; clear = λ i m l a b. absurd (omega arith); others = λ i b h. refl }

  -- one row more
  pub rest_next : {i : ℕ} {plane : List ℕ} {mid new : List (List ℕ)} → space ≤ 4096 → Clear plane space → length new ≡ length mid → PlaneCopied plane (words_of space) i mid new → Rest i space old mid → Rest (i + 1) space old new
  rest_next {i} {plane} {mid} {new} small bare same put so_far =
      record {
        same_length = same ∙ so_far.same_length;
        clear = λ j m l a b. go j m l a b (test (eqb j i));
        others = λ j b h. put.others j b (λ e. h (omega (arith, e))) ∙ so_far.others j b (λ l. h (omega arith));
      }
    where
      go : (j m : ℕ) → j < i + 1 → space ≤ m → m < 64 * words_of space → Test (eqb j i) → bit_of new j m ≡ false
      go j m l a b (passed e) = rw (eqb-true j i e) (ap (λ x. bit x (m % 64)) (put.here (m / 64) (omega arith)) ∙ bare m a (omega arith))
      go j m l a b (failed e) =
          let other = eqb-false j i e in
          ap (λ x. bit x (m % 64)) (put.others j (m / 64) (λ same. absurd (other same))) ∙ so_far.clear j m (omega (arith, other)) a b
