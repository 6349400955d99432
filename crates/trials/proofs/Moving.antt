-- A rule that is tried: a request gets something else only where the rule moves what the element over it decides.
use Prim.Native.Nat.{ℕ, ◌+◌, ◌*◌, ◌/◌, ◌%◌, ◌≤◌, ◌<◌}
use mathlib.Core.Path.{◌≡◌, sym, ap, ap₂, ◌∙◌}
use mathlib.Core.Bool.{Bool, true, false, not}
use mathlib.Core.List.{List}
use native.Mathlib.Omega.{arith}
use lib.Dec.{eqb, ltb}
use borrow.Author.Tests.{eqb-true, ltb-true, ltb-false}
use Rattle.std.specs.Prelude.{Option, Some, None, IfSome}
use Rattle.std.specs.Option.{option_eq}
use Rattle.meaning.specs.Text.{Bytes}
use Rattle.meaning.specs.Deciding.{bit, is, same_outcome}
use Rattle.laws.proofs.Bits.{bit_zero}
use Rattle.laws.proofs.Bools.{Test, passed, failed, test, contradiction}
use Rattle.laws.proofs.Outcomes.{outcome_same}
use Rattle.table.specs.declared.Row.{Row}
use Rattle.table.specs.Rows.{element_at}
use Rattle.table.specs.declared.Shape.{Shape}
use Rattle.table.specs.Shape.{hit_of}
use Rattle.decisions.specs.Replies.{reply_at}
use Rattle.table.specs.Words.{word_in}
use Rattle.blocks.specs.declared.Effects.{Effects}
use Rattle.blocks.specs.Bits.{Fits, Lowest}
use Rattle.moves.specs.Moved.{kept, moved_at, Child}
use Rattle.outcomes.specs.Changes.{InBlock, FirstInBlock}
use Rattle.obligations.specs.Given.{outcome_left}
use Rattle.differences.specs.Apart.{apart, Suspects}
use Rattle.differences.proofs.Apart.{first_is, decided_apart}
use Rattle.trials.specs.Decided.{apart_at}
use Rattle.trials.specs.Steady.{Unchanged}
use Rattle.trials.specs.Trial.{Grouped, Trial, Reached}
use Rattle.layout.specs.declared.ElementPlaces.{ElementPlaces}

-- an option of the first element
pub first_element : (up : Option ℕ) → option_eq eqb up (Some 0) ≡ true → up ≡ Some 0
first_element None e = absurd (cc)
first_element (Some i) e = ap Some (eqb-true i 0 e)

-- Rule `rule`, which is tried
module _ (f : Bytes) (places : List ElementPlaces) (t : List Row) (struck : List ℕ) (hits : List (List ℕ)) (outcomes : List Effects) (s : Shape) (rule : ℕ) (trial : Trial f places t struck hits outcomes s rule) where
  abbrev parted : ℕ → Bool
  parted = apart_at f places t s.n (hit_of s) struck rule

  pub unchanged_not : (m : ℕ) → Unchanged f places t struck s rule m → parted m ≡ false
  unfolding apart
  unchanged_not m same =
      let without = outcome_left (hit_of s m) f t places struck s.n in
      ap (λ o. not (same_outcome o without)) same ∙ ap not (outcome_same without)

  -- no request of a block in which none matches the rule gets anything else
  pub block_off : (block : ℕ) → word_in hits rule block ≡ 0 → (m : ℕ) → m < s.space → m / 64 ≡ block → parted m ≡ false
  block_off block none m l e =
      let off : hit_of s m (element_at t rule) ≡ false = sym (rw e at (trial.matched.hits_are rule m trial.aside.element l)) ∙ ap (λ w. bit w (m % 64)) none ∙ bit_zero (m % 64) in
      unchanged_not m (trial.steady.unmatched struck rule trial.aside m l off)

  pub block_fits : (block : ℕ) → 64 * block < s.space → Fits t struck hits s.n block
  block_fits block l =
      let ready = trial.aside.ready in
      record { rows = ready.rows; flags = ready.flags; words = trial.matched.room; few = ready.few; within = omega (arith, ready.small) }

  pub child : (up : Option ℕ) → Grouped t rule up → IfSome up (λ i. Child t struck s.n i rule)
  child None none = tt
  child (Some i) under =
      let aside = trial.aside in
      record { under = under; inside = aside.element; effect = aside.effect; leaves = aside.ready.leaves; rules = aside.before.rules; flag = aside.flag }

  -- The word of the block's requests on which it moves what an element decides, or that match it
  module _ (block w : ℕ) (some : 64 * block < s.space) where
    moved_bit : (i : ℕ) → Reached t struck hits s.n block (Some i) rule w → (m : ℕ) → m < s.space → m / 64 ≡ block → bit w (m % 64) ≡ moved_at (hit_of s m) t struck s.n i rule
    moved_bit i reached m l e = reached (m % 64) (hit_of s m) (λ j below. rw e at (trial.matched.hits_are j m below l))

    matched_bit : Reached t struck hits s.n block None rule w → (m : ℕ) → m < s.space → m / 64 ≡ block → bit w (m % 64) ≡ hit_of s m (element_at t rule)
    matched_bit reached m l e = ap (λ x. bit x (m % 64)) reached ∙ rw e at (trial.matched.hits_are rule m trial.aside.element l)

    -- no other request gets anything else
    pub suspects : (up : Option ℕ) → Grouped t rule up → Reached t struck hits s.n block up rule w → Suspects f places t (kept struck rule) struck s block w
    suspects None none reached m l e off = unchanged_not m (trial.steady.unmatched struck rule trial.aside m l (sym (matched_bit reached m l e) ∙ off))
    suspects (Some i) under reached m l e off = unchanged_not m (trial.steady.unmoved struck rule i trial.aside under m l (sym (moved_bit i reached m l e) ∙ off))

    pub none_moved : (up : Option ℕ) → Grouped t rule up → Reached t struck hits s.n block up rule w → w ≡ 0 → InBlock parted s.space block None
    none_moved up grouped reached none = λ m low high l. suspects up grouped reached m l (omega arith) (ap (λ x. bit x (m % 64)) none ∙ bit_zero (m % 64))

    -- the first element decides otherwise where the rule moves it
    moved_apart : (m : ℕ) → m < s.space → moved_at (hit_of s m) t struck s.n 0 rule ≡ true → parted m ≡ true
    unfolding moved_at
    moved_apart m l moved =
        let aside = trial.aside in
        decided_apart f places t s.n (hit_of s) (kept struck rule) struck m (ap₂ (λ x y. not (is x y)) (first_is aside.before m) (first_is aside.ready m) ∙ moved)

    -- no bit behind the requests is set
    bit_none : Reached t struck hits s.n block (Some 0) rule w → (m : ℕ) → s.space ≤ m → m / 64 ≡ block → bit w (m % 64) ≡ false
    unfolding moved_at reply_at
    bit_none reached m past e = reached (m % 64) (λ x. false) (λ i below. rw e at (trial.matched.clear i m below past (omega arith)))

    pub first_moved : Grouped t rule (Some 0) → Reached t struck hits s.n block (Some 0) rule w → (v : ℕ) → Lowest w v → FirstInBlock parted s.space block (64 * block + v)
    first_moved under reached v lowest =
        record {
          within = below;
          high = omega (arith, lowest.small);
          low = omega arith;
          holds = moved_apart (64 * block + v) below (sym (moved_bit 0 reached (64 * block + v) below (omega (arith, lowest.small))) ∙ rw place lowest.set);
          none_earlier = λ m low l. suspects (Some 0) under reached m (omega (arith, below)) (omega (arith, lowest.small)) (lowest.none_below (m % 64) (omega (arith, lowest.small)));
        }
      where
        place : (64 * block + v) % 64 ≡ v
        place = omega (arith, lowest.small)

        below : 64 * block + v < s.space
        below = go (test (ltb (64 * block + v) s.space))
          where
            go : Test (ltb (64 * block + v) s.space) → 64 * block + v < s.space
            go (passed e) = ltb-true (64 * block + v) s.space e
            go (failed e) =
                let past = ltb-false (64 * block + v) s.space e in
                contradiction lowest.set (rw place at (bit_none reached (64 * block + v) past (omega (arith, lowest.small))))
