-- Decisions by words: where two agree, and where one settles the answer, bit by bit.
use mathlib.Core.Path.{◌≡◌, refl, ap}
use Prim.Native.Nat.{ℕ}
use mathlib.Core.Logic.{◌⊎◌, inl, inr}
use mathlib.Core.Bool.{Bool, true, false, not, ◌&&◌, ◌||◌}
use lib.Bits.{bit_and, bit_or}
use Rattle.meaning.specs.declared.Word.{Word}
use Rattle.meaning.specs.declared.Decision.{Decision}
use Rattle.meaning.specs.Deciding.{is, bit}
use Rattle.laws.proofs.Bits.{bit_and_lem, bit_or_lem}
use Rattle.blocks.specs.Bits.{decision_by}
use Rattle.chains.specs.Chain.{alike, asks, settles}

-- what settles the answer, by two bits, permitted and denied
pub deny_settles : (p d : Bool) → d ≡ settles Word.DenyOverrides (decision_by p d)
deny_settles true true = refl
deny_settles true false = refl
deny_settles false true = refl
deny_settles false false = refl

pub permit_settles : (p d : Bool) → (p && not d) ≡ settles Word.PermitOverrides (decision_by p d)
permit_settles true true = refl
permit_settles true false = refl
permit_settles false true = refl
permit_settles false false = refl

pub any_settles : (p d : Bool) → (p || d) ≡ settles Word.FirstApplicable (decision_by p d)
any_settles true true = refl
any_settles true false = refl
any_settles false true = refl
any_settles false false = refl

-- effects ask nothing, algorithms do
pub effect_asks : (w : Word) → (w ≡ Word.Permit) ⊎ (w ≡ Word.Deny) → asks w ≡ false
effect_asks w (inl e) = rw e
effect_asks w (inr e) = rw e

pub algorithm_asks : (w : Word) → (w ≡ Word.Permit → ⊥) → (w ≡ Word.Deny → ⊥) → asks w ≡ true
algorithm_asks Word.Permit permit deny = absurd (permit refl)
algorithm_asks Word.Deny permit deny = absurd (deny refl)
algorithm_asks Word.DenyOverrides permit deny = refl
algorithm_asks Word.PermitOverrides permit deny = refl
algorithm_asks Word.FirstApplicable permit deny = refl
algorithm_asks Word.OnlyOneApplicable permit deny = refl

-- two decisions, each by its bits
denied_bits : (p d : Bool) → (d && not p) ≡ is Decision.Deny (decision_by p d)
denied_bits true true = refl
denied_bits true false = refl
denied_bits false true = refl
denied_bits false false = refl

alike_bits : (p d q e : Bool) → (((p && not d) && (q && not e)) || ((d && not p) && (e && not q))) ≡ alike (decision_by p d) (decision_by q e)
alike_bits true true q e = refl
alike_bits true false q e = ap (λ x. x || false) (permit_settles q e)
alike_bits false true q e = denied_bits q e
alike_bits false false q e = refl

-- w has the bits of x that y does not have, at v
abbrev Less : ℕ → ℕ → ℕ → ℕ → Type 0
Less v w x y = bit w v ≡ (bit x v && not (bit y v))

pub alike_words : (p d q e v a b x y : ℕ) → Less v a p d → Less v b q e → Less v x d p → Less v y e q
    → bit (bit_or (bit_and a b) (bit_and x y)) v ≡ alike (decision_by (bit p v) (bit d v)) (decision_by (bit q v) (bit e v))
alike_words p d q e v a b x y la lb lx ly = rw (bit_or_lem (bit_and a b) (bit_and x y) v, bit_and_lem a b v, bit_and_lem x y v, la, lb, lx, ly) (alike_bits (bit p v) (bit d v) (bit q v) (bit e v))
