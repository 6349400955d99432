-- The requests that show conflicts, laid down pair by pair.
use mathlib.Core.Path.{◌≡◌, refl, sym, ap, ◌∙◌, subst}
use mathlib.Core.Logic.{◌≢◌}
use Prim.Native.Nat.{ℕ, ◌+◌, ◌≤◌, ◌<◌}
use native.Mathlib.Omega.{arith}
use mathlib.Core.Bool.{Bool, true, false}
use mathlib.Core.List.{List, []}
use lib.Dec.{eqb}
use lib.ListN.{length, get_or, set, length-set}
use borrow.Author.Tests.{eqb-true, eqb-false}
use Rattle.laws.proofs.Bools.{eqb_same}
use Rattle.meaning.specs.Text.{first_from}
use Rattle.laws.proofs.Bools.{Test, passed, failed, test}
use Rattle.std.specs.Prelude.{Option, Some, None}
use Rattle.std.specs.Option.{option_eq}
use Rattle.std.proofs.lemmas.Option.{same_Some}
use Rattle.table.specs.Tree.{place_or}
use Rattle.table.specs.Words.{word_in}
use Rattle.table.proofs.Words.{SameWidths, with_word, word_here, word_elsewhere, widths_next}
use Rattle.conflicts.specs.Pairs.{shown_for, Later, OthersStay, PairIs, PairsOf}

-- an option of this number
pub some_eq : (o : Option ℕ) (i : ℕ) → option_eq eqb o (Some i) ≡ true → o ≡ Some i
some_eq None i e = absurd (cc)
some_eq (Some k) i e = ap Some (eqb-true k i e)

pub some_ne : (o : Option ℕ) (i : ℕ) → option_eq eqb o (Some i) ≡ false → o ≡ Some i → ⊥
some_ne o i e same = let yes : option_eq eqb o (Some i) ≡ true = rw same (eqb_same i) in absurd (cc)

module _ (parents : List (Option ℕ)) (shows : ℕ → ℕ → ℕ → ℕ → Bool) (n space : ℕ) (old : List (List ℕ)) where
  -- the pairs of j with elements before k; all places that are of no pair of j are as they were
  pub record PairedTo (j k : ℕ) (pairs : List (List ℕ)) : Type 0 where
    pub each : (l : ℕ) → l < k → PairIs parents shows n space pairs j l
    pub others : (l m : ℕ) → (l ≡ j → (i : ℕ) → Later parents n i j m → ⊥) → word_in pairs l m ≡ word_in old l m
    pub same_length : length pairs ≡ length old
    pub widths : SameWidths old pairs

  module _ (j : ℕ) where
    pub pairs_begun : PairedTo j (j + 1) old
    pairs_begun = record { each = λ l a i child. absurd (omega (arith, child.after)); others = λ l m h. refl; same_length = refl; widths = λ l. refl }

    -- an element without a parent has no pair
    pub no_pair : (pairs : List (List ℕ)) → ((i : ℕ) → i < n → get_or parents j None ≡ Some i → ⊥) → PairsOf parents shows n space pairs j
    no_pair pairs none k i child = absurd (none i child.some child.child)

    -- its parent is `parent`
    module _ (parent : ℕ) (is_parent : get_or parents j None ≡ Some parent) (k : ℕ) (pairs : List (List ℕ)) (so_far : PairedTo j k pairs) where
      one_parent : (l i : ℕ) → Later parents n i j l → i ≡ parent
      one_parent l i child = same_Some _ _ (sym child.child ∙ is_parent)

      -- k is no child of it
      pub pair_skipped : (get_or parents k None ≡ Some parent → ⊥) → PairedTo j (k + 1) pairs
      pair_skipped other = record { each = λ l a. go l a (test (eqb l k)); others = so_far.others; same_length = so_far.same_length; widths = so_far.widths }
        where
          go : (l : ℕ) → l < k + 1 → Test (eqb l k) → PairIs parents shows n space pairs j l
          go l a (passed e) i child = absurd (other (sym (ap (λ x. get_or parents x None) (eqb-true l k e)) ∙ child.sibling ∙ ap Some (one_parent l i child)))
          go l a (failed e) i child = let ne : l ≢ k = eqb-false l k e in so_far.each l (omega arith) i child

      -- k is one: its request is laid down
      pub pair_laid : (m : ℕ) → Later parents n parent j k → (inside : j < length pairs) → k < length (get_or pairs j []) → m ≡ place_or space (first_from (shows parent j k) 0 space) → PairedTo j (k + 1) (set pairs j (set (get_or pairs j []) k m))
      unfolding shown_for
      pair_laid m later inside room is =
          record {
            each = λ l a. go l a (test (eqb l k));
            others = λ l x h. word_elsewhere pairs j k m inside l x (λ e f. h e parent (rw f later)) ∙ so_far.others l x h;
            same_length = length-set pairs j (set (get_or pairs j []) k m) ∙ so_far.same_length;
            widths = widths_next pairs j k m inside old so_far.widths;
          }
        where
          go : (l : ℕ) → l < k + 1 → Test (eqb l k) → PairIs parents shows n space (with_word pairs j k m inside) j l
          go l a (passed e) i child = rw (one_parent l i child, eqb-true l k e) (word_here pairs j k m inside room ∙ is)
          go l a (failed e) i child =
              let ne : l ≢ k = eqb-false l k e in
              word_elsewhere pairs j k m inside j l (λ _. ne) ∙ so_far.each l (omega arith) i child

      pub pairs_ended : n ≤ k → PairsOf parents shows n space pairs j
      pairs_ended all l i child = so_far.each l (omega (arith, child.within)) i child

-- the pairs of the elements before j, and one element more
module _ (parents : List (Option ℕ)) (shows : ℕ → ℕ → ℕ → ℕ → Bool) (n space : ℕ) (j : ℕ) (old new : List (List ℕ)) where
  pub pairs_more : ((i : ℕ) → i < j → PairsOf parents shows n space old i) → PairsOf parents shows n space new j → ((l k : ℕ) → (l ≡ j → (i : ℕ) → Later parents n i j k → ⊥) → word_in new l k ≡ word_in old l k) → (i : ℕ) → i < j + 1 → PairsOf parents shows n space new i
  pairs_more earlier this others i l = go (test (eqb i j))
    where
      go : Test (eqb i j) → PairsOf parents shows n space new i
      go (passed e) k p child = subst (λ x. PairsOf parents shows n space new x) (sym (eqb-true i j e)) this k p child
      go (failed e) k p child = let ne : i ≢ j = eqb-false i j e in others i k (λ same. absurd (ne same)) ∙ earlier i (omega arith) k p child

-- the places that are of no pair stay once more
pub others_more : (parents : List (Option ℕ)) (n j : ℕ) (old mid new : List (List ℕ)) → OthersStay parents n old mid → ((l k : ℕ) → (l ≡ j → (i : ℕ) → Later parents n i j k → ⊥) → word_in new l k ≡ word_in mid l k) → OthersStay parents n old new
others_more parents n j old mid new so_far others l k h = others l k (λ e i later. h i (rw e later)) ∙ so_far l k h
