-- A block of 64 requests: what its words tell of each of them, against what was laid down.
use Prim.Native.Nat.{ℕ, ◌+◌, ◌*◌, ◌/◌, ◌%◌, ◌≤◌, ◌<◌}
use mathlib.Core.Path.{◌≡◌, sym, ap, ◌∙◌}
use mathlib.Core.Bool.{Bool, true, false, not, cond}
use mathlib.Core.List.{List}
use Rattle.std.specs.Prelude.{Option, Some, None}
use native.Mathlib.Nat.{sub-zero}
use native.Mathlib.Omega.{arith}
use lib.Dec.{leb}
use lib.ListN.{get_or}
use borrow.Author.Tests.{leb-true, leb-false}
use Rattle.meaning.specs.declared.Decision.TheVariants.{NotApplicable}
use Rattle.meaning.specs.declared.Element.{Element}
use Rattle.meaning.specs.declared.Decision.{Decision}
use Rattle.meaning.specs.Deciding.{is}
use Rattle.laws.proofs.Bools.{Test, passed, failed, test}
use Rattle.laws.proofs.Outcomes.{same_decision, decision_same}
use Rattle.table.specs.declared.Row.{Row}
use Rattle.table.specs.declared.Shape.{Shape}
use Rattle.table.specs.Shape.{hit_of}
use Rattle.decisions.specs.Replies.{reply_at}
use Rattle.decisions.proofs.Children.{first_left}
use Rattle.matching.specs.Hits.{words_of, HitsLaid}
use Rattle.blocks.specs.declared.Effects.{Effects}
use Rattle.blocks.specs.declared.Replies.{Replies}
use Rattle.blocks.specs.Bits.{decision_bit, reply_bit, Answers, Fits}
use Rattle.outcomes.specs.Decided.{no_effects, outcome_at, decided_at, differs_at}
use Rattle.outcomes.specs.PolicyTable.{PolicyTable}
use Rattle.outcomes.specs.Changes.{Other, InBlock}

-- what a call of `reply` says of the first element's replies in the block
abbrev pub Replied : (t : List Row) (struck : List ℕ) (hits : List (List ℕ)) (n block : ℕ) → Replies → Type 0
Replied t struck hits n block r = (v : ℕ) (hit : Element → Bool) → Answers t hits n block v hit → reply_bit r v ≡ reply_at hit t struck n 0

-- what the bits of request m are to tell: behind the requests nothing
abbrev pub outcome_up_to : List Row → List ℕ → Shape → ℕ → Decision
outcome_up_to t struck s m = cond (leb s.space m) NotApplicable (decided_at t s.n (hit_of s) struck m)

module _ (t : List Row) (struck : List ℕ) (hits : List (List ℕ)) (s : Shape) (ready : PolicyTable t struck s) (matched : HitsLaid t hits s) (block : ℕ) where
  pub block_fits : block < 64 → Fits t struck hits s.n block
  block_fits l = record { rows = ready.rows; flags = ready.flags; words = matched.room; few = ready.few; within = l }

  module _ (r : Replies) (replied : Replied t struck hits s.n block r) where
    -- request m of the block gets what its bits tell
    given_at : (m : ℕ) → m < s.space → m / 64 ≡ block → decision_bit r.given (m % 64) ≡ decided_at t s.n (hit_of s) struck m
    unfolding decided_at
    given_at m l e =
        let hit = hit_of s m in
        let answers : Answers t hits s.n block (m % 64) hit = λ i below. rw e at (matched.hits_are i m below l) in
        let first = first_left hit t struck s.n 0 (omega (arith, ready.some)) ready.stays in
        ap (λ x. x.decision) (replied (m % 64) hit answers) ∙ sym (rw sub-zero at first)

    -- a bit behind the requests tells nothing
    given_none : (m : ℕ) → s.space ≤ m → m < 64 * words_of s.space → m / 64 ≡ block → decision_bit r.given (m % 64) ≡ NotApplicable
    unfolding reply_at
    given_none m past l e =
        let answers : Answers t hits s.n block (m % 64) (λ x. false) = λ i below. rw e at (matched.clear i m below past l) in
        ap (λ x. x.decision) (replied (m % 64) (λ x. false) answers)

    pub given_outcome : 64 * block < s.space → (m : ℕ) → m / 64 ≡ block → decision_bit r.given (m % 64) ≡ outcome_up_to t struck s m
    given_outcome some m e = go (test (leb s.space m))
      where
        go : Test (leb s.space m) → decision_bit r.given (m % 64) ≡ outcome_up_to t struck s m
        go (passed past) = rw past (given_none m (leb-true s.space m past) (omega arith) e)
        go (failed within) = rw within (given_at m (leb-false s.space m within) e)

    module _ (outcomes : List Effects) where
      outcome_there : (m : ℕ) → m / 64 ≡ block → outcome_at outcomes m ≡ decision_bit (get_or outcomes block no_effects) (m % 64)
      outcome_there m e = rw e

      -- its test against what was laid down
      same_bits : (m : ℕ) → m < s.space → m / 64 ≡ block → decision_bit r.given (m % 64) ≡ decision_bit (get_or outcomes block no_effects) (m % 64) → differs_at t s.n (hit_of s) outcomes struck m ≡ false
      unfolding differs_at
      same_bits m l e alike =
          let gets = decided_at t s.n (hit_of s) struck m in
          ap (λ d. not (is d gets)) (outcome_there m e ∙ sym alike ∙ given_at m l e) ∙ ap not (decision_same gets)

      other_bits : (m : ℕ) → m < s.space → m / 64 ≡ block → (decision_bit r.given (m % 64) ≡ decision_bit (get_or outcomes block no_effects) (m % 64) → ⊥) → differs_at t s.n (hit_of s) outcomes struck m ≡ true
      unfolding differs_at
      other_bits m l e other = go (test (is (outcome_at outcomes m) (decided_at t s.n (hit_of s) struck m)))
        where
          go : Test (is (outcome_at outcomes m) (decided_at t s.n (hit_of s) struck m)) → not (is (outcome_at outcomes m) (decided_at t s.n (hit_of s) struck m)) ≡ true
          go (passed same) = absurd (other (given_at m l e ∙ sym (same_decision _ _ same) ∙ outcome_there m e))
          go (failed differ) = ap not differ

      pub block_alike : r.given.permits ≡ (get_or outcomes block no_effects).permits → r.given.denies ≡ (get_or outcomes block no_effects).denies → InBlock (differs_at t s.n (hit_of s) outcomes struck) s.space block None
      block_alike permits denies = λ m low high l. same_bits m l (omega arith) (rw (permits, denies))

      pub block_other : (first : Option ℕ) → Other r.given (get_or outcomes block no_effects) (64 * block) s.space first → InBlock (differs_at t s.n (hit_of s) outcomes struck) s.space block first
      block_other None same =
          λ m low high l.
          let here : 64 * block + m % 64 ≡ m = omega arith in
          same_bits m l (omega arith) (same (m % 64) (omega arith) (omega arith))
      block_other (Some first) other =
          let (v, below, at, differ) = other.found in
          let place : first % 64 ≡ v = omega arith in
          record {
            within = other.within;
            high = omega arith;
            low = omega arith;
            holds = other_bits first other.within (omega arith) (rw place differ);
            none_earlier = λ m low l.
                let here : 64 * block + m % 64 ≡ m = omega arith in
                same_bits m (omega (arith, other.within)) (omega arith) (other.none_earlier (m % 64) (omega arith) (omega arith));
          }
