-- A word of a row set: what stands there and elsewhere, and how long the rows are.
use Prim.Native.Nat.{ℕ, ◌<◌}
use mathlib.Core.Path.{◌≡◌, ap, ◌∙◌}
use mathlib.Core.Logic.{◌≢◌}
use mathlib.Core.List.{List, []}
use lib.Dec.{eqb}
use lib.ListN.{length, get_or, set, length-set}
use lib.Seq.{get_or-set_same, get_or-set_other}
use borrow.Author.Tests.{eqb-true, eqb-false}
use Rattle.laws.proofs.Bools.{Test, passed, failed, test}
use Rattle.table.specs.Words.{word_in}

-- the rows are as long as they were
abbrev pub SameWidths : List (List ℕ) → List (List ℕ) → Type 0
SameWidths old rows = (i : ℕ) → length (get_or rows i []) ≡ length (get_or old i [])

module _ (rows : List (List ℕ)) (i b w : ℕ) (inside : i < length rows) where
  abbrev pub with_word : List (List ℕ)
  with_word = set rows i (set (get_or rows i []) b w)

  own_row : get_or with_word i [] ≡ set (get_or rows i []) b w
  own_row = get_or-set_same rows i _ [] inside

  other_row : (j : ℕ) → j ≢ i → get_or with_word j [] ≡ get_or rows j []
  other_row j apart = get_or-set_other rows i j _ [] apart

  pub word_here : b < length (get_or rows i []) → word_in with_word i b ≡ w
  word_here room = ap (λ r. get_or r b 0) own_row ∙ get_or-set_same (get_or rows i []) b w 0 room

  pub word_elsewhere : (j c : ℕ) → (j ≡ i → c ≢ b) → word_in with_word j c ≡ word_in rows j c
  word_elsewhere j c apart = go (test (eqb j i))
    where
      go : Test (eqb j i) → word_in with_word j c ≡ word_in rows j c
      go (passed e) = let same = eqb-true j i e in rw same (ap (λ r. get_or r c 0) own_row ∙ get_or-set_other (get_or rows i []) b c w 0 (apart same))
      go (failed e) = ap (λ r. get_or r c 0) (other_row j (eqb-false j i e))

  pub widths_next : (old : List (List ℕ)) → SameWidths old rows → SameWidths old with_word
  widths_next old so_far j = go (test (eqb j i))
    where
      go : Test (eqb j i) → length (get_or with_word j []) ≡ length (get_or old j [])
      go (passed e) = rw (eqb-true j i e) (ap length own_row ∙ length-set (get_or rows i []) b w ∙ so_far i)
      go (failed e) = ap length (other_row j (eqb-false j i e)) ∙ so_far j
