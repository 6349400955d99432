-- Flags copied, and what requests get under flags that agree.
use Prim.Native.Nat.{ℕ, zero, suc, ◌+◌, ◌-◌, ◌≤◌, ◌<◌}
use mathlib.Core.Path.{◌≡◌, refl, sym, ◌∙◌}
use mathlib.Core.Bool.{Bool}
use mathlib.Core.List.{List}
use native.Mathlib.Omega.{arith}
use lib.Dec.{eqb}
use lib.ListN.{length, get_or, set}
use lib.Seq.{get_or-set_same, get_or-set_other}
use borrow.Author.Tests.{eqb-true, eqb-false}
use Rattle.meaning.specs.declared.Word.{Word}
use Rattle.meaning.specs.declared.Decision.{Decision}
use Rattle.meaning.specs.declared.Element.{Element}
use Rattle.meaning.specs.Text.{Bytes}
use Rattle.meaning.specs.Deciding.{first_decision}
use Rattle.laws.proofs.Bools.{Test, passed, failed, test}
use Rattle.table.specs.declared.Row.{Row}
use Rattle.table.specs.Tree.{left}
use Rattle.decisions.specs.Replies.{replies_from, reply_at}
use Rattle.chains.specs.Chain.{chained_in, chained}
use Rattle.moves.specs.Moved.{kept}
use Rattle.obligations.specs.Given.{given_text, outcome_left}
use Rattle.trials.specs.Trial.{Copied}
use Rattle.layout.specs.declared.ElementPlaces.{ElementPlaces}

module _ (t : List Row) (a b : List ℕ) (n : ℕ) (copied : Copied a n b) where
  left_copied : (m i : ℕ) → i + m ≤ n → left t b i m ≡ left t a i m
  unfolding left
  left_copied zero i l = refl
  left_copied (suc m) i l = rw (copied i (omega arith), left_copied m (i + 1) (omega arith))

  module _ (hit : Element → Bool) where
    reply_copied : (i : ℕ) → i < n → reply_at hit t b n i ≡ reply_at hit t a n i
    unfolding reply_at replies_from
    reply_copied i l = rw (left_copied (n - (i + 1)) (i + 1) (omega arith))

    chained_in_lem : (d : Decision) (w : Word) (k : ℕ) (c : Bool) (j m i : ℕ) → i + m ≤ n → chained_in hit d t b n w k c j i m ≡ chained_in hit d t a n w k c j i m
    unfolding chained_in
    chained_in_lem d w k c j zero i l = refl
    chained_in_lem d w k c j (suc m) i l =
        let next : (v : Word) (p : ℕ) (x : Bool) → chained_in hit d t b n v p x j (i + 1) m ≡ chained_in hit d t a n v p x j (i + 1) m = λ v p x. chained_in_lem d v p x j m (i + 1) (omega arith) in
        simp (copied i (omega arith), reply_copied i (omega arith), next)

    chained_copied : 0 < n → (j : ℕ) → chained hit t b n j ≡ chained hit t a n j
    unfolding chained
    chained_copied some j = rw (reply_copied 0 some) (chained_in_lem _ Word.FirstApplicable _ _ j (n - 0) 0 (omega arith))

    -- what a request gets
    pub outcome_copied : 0 < n → (f : Bytes) (places : List ElementPlaces) → outcome_left hit f t places b n ≡ outcome_left hit f t places a n
    outcome_copied some f places =
        let es : left t b 0 n ≡ left t a 0 n = left_copied n 0 (omega arith) in
        λ i. let d = first_decision hit (es i) in record { decision = d; obligations = given_text d (λ j. chained_copied some j i) f places n }

-- flags copied, and a rule left
pub copied_kept : (struck copy : List ℕ) (n rule : ℕ) → rule < length struck → rule < length copy → Copied struck n copy → Copied (kept struck rule) n (set copy rule 0)
copied_kept struck copy n rule l m same j inside = go (test (eqb j rule))
  where
    go : Test (eqb j rule) → get_or (set copy rule 0) j 0 ≡ get_or (kept struck rule) j 0
    go (passed x) = rw (eqb-true j rule x) (get_or-set_same copy rule 0 0 m ∙ sym (get_or-set_same struck rule 0 0 l))
    go (failed x) =
        let other = eqb-false j rule x in
        get_or-set_other copy rule j 0 0 other ∙ same j inside ∙ sym (get_or-set_other struck rule j 0 0 other)
