-- What a rule gives where it matches.
use Prim.Native.Nat.{ℕ, zero, suc, ◌≤◌, ◌<◌}
use mathlib.Core.Path.{◌≡◌, refl, sym, ap, ◌∙◌}
use mathlib.Core.Bool.{Bool, true, false, cond, ◌&&◌}
use mathlib.Core.List.{List, []}
use native.Mathlib.Omega.{arith}
use lib.Bits.{bit_and}
use Rattle.meaning.specs.declared.Decision.TheVariants.{NotApplicable}
use Rattle.meaning.specs.declared.Word.TheVariants.{Permit, Deny}
use Rattle.meaning.specs.declared.Element.{Element}
use Rattle.meaning.specs.Deciding.{Reply as ChildReply, bit, is, combined}
use Rattle.laws.proofs.Bits.{bit_and_lem, bit_zero}
use Rattle.table.specs.declared.Row.{Row}
use Rattle.table.specs.Rows.{word_at, algorithm_at, algorithm_number, algorithm_of, element_at, word_number}
use Rattle.decisions.specs.Replies.{step_of, reply_at}
use Rattle.decisions.proofs.Combining.{Settled, start}
use Rattle.moves.specs.Moved.{effect_reply}

-- it looks at no children
effect_alone : (w : ℕ) (rs : List ChildReply) → w < 2 → combined (word_at w) rs ≡ combined (word_at w) []
effect_alone zero rs l = refl
effect_alone (suc zero) rs l = refl
effect_alone (suc (suc w)) rs l = let no : ⊥ = omega arith in absurd no

pub rule_reply : (hit : Element → Bool) (t : List Row) (s : List ℕ) (n i : ℕ) → word_number t i < 2 → reply_at hit t s n i ≡ effect_reply (word_at (word_number t i)) (hit (element_at t i))
unfolding reply_at element_at
rule_reply hit t s n i l = ap (λ d. record { matched = hit (element_at t i); decision = cond (hit (element_at t i)) d NotApplicable }) (effect_alone (word_number t i) _ l)

-- the algorithm of an element over rules, by its word's number
pub group_word : (k : ℕ) → 2 ≤ k → algorithm_of (word_at k) ≡ word_at k
group_word zero l = absurd (omega arith)
group_word (suc zero) l = absurd (omega arith)
group_word (suc (suc zero)) l = refl
group_word (suc (suc (suc zero))) l = refl
group_word (suc (suc (suc (suc zero)))) l = refl
group_word (suc (suc (suc (suc (suc k))))) l = refl

pub group_few : (k : ℕ) → 2 ≤ k → k < 5 → algorithm_number (word_at k) < 3
group_few zero l u = absurd (omega arith)
group_few (suc zero) l u = absurd (omega arith)
group_few (suc (suc zero)) l u = omega arith
group_few (suc (suc (suc zero))) l u = omega arith
group_few (suc (suc (suc (suc zero)))) l u = omega arith
group_few (suc (suc (suc (suc (suc k))))) l u = absurd (omega arith)

-- Behind nothing it gives its effect, which is a decision
pub record Gives (a : ℕ) (r : ChildReply) : Type 0 where
  pub settled : Settled a r
  pub first : r ≡ step_of (algorithm_at a) start r
  pub other : is r.decision NotApplicable ≡ false

permit_gives : (a : ℕ) → a < 3 → Gives a (effect_reply Permit true)
permit_gives zero few = record { settled = refl; first = refl; other = refl }
permit_gives (suc zero) few = record { settled = refl; first = refl; other = refl }
permit_gives (suc (suc zero)) few = record { settled = refl; first = refl; other = refl }
permit_gives (suc (suc (suc a))) few = let no : ⊥ = omega arith in absurd no

deny_gives : (a : ℕ) → a < 3 → Gives a (effect_reply Deny true)
deny_gives zero few = record { settled = refl; first = refl; other = refl }
deny_gives (suc zero) few = record { settled = refl; first = refl; other = refl }
deny_gives (suc (suc zero)) few = record { settled = refl; first = refl; other = refl }
deny_gives (suc (suc (suc a))) few = let no : ⊥ = omega arith in absurd no

pub effect_gives : (a w : ℕ) → a < 3 → w < 2 → Gives a (effect_reply (word_at w) true)
effect_gives a zero few l = permit_gives a few
effect_gives a (suc zero) few l = deny_gives a few
effect_gives a (suc (suc w)) few l = let no : ⊥ = omega arith in absurd no

-- a word that has no bit of another, at a bit of that
pub missed : (w other v : ℕ) → bit_and w other ≡ 0 → bit other v ≡ true → bit w v ≡ false
missed w other v none e =
    let neither : (bit w v && bit other v) ≡ false = sym (bit_and_lem w other v) ∙ ap (λ x. bit x v) none ∙ bit_zero v in
    sym (and_true_right (bit w v)) ∙ rw e at neither
  where
    and_true_right : (x : Bool) → (x && true) ≡ x
    and_true_right true = refl
    and_true_right false = refl
