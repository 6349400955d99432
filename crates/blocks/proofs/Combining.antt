-- The combining algorithms on bits: each formula, on the bits of two replies, gives what the algorithm gives of them.
use mathlib.Core.Path.{◌≡◌, refl}
use Prim.Native.Nat.{ℕ}
use mathlib.Core.Bool.{Bool, true, false, not, ◌&&◌, ◌||◌}
use mathlib.Core.List.{[], ◌∷◌}
use Rattle.meaning.specs.declared.Word.TheVariants.{DenyOverrides, PermitOverrides, FirstApplicable, OnlyOneApplicable}
use lib.Bits.{bit_and, bit_xor}
use Rattle.meaning.specs.Deciding.{bit, is, combined}
use Rattle.laws.proofs.Bits.{xor, bit_and_lem, bit_xor_lem}
use Rattle.decisions.specs.Replies.{next_of}
use Rattle.blocks.specs.Bits.{decision_by}

-- what holds of the four choices of two truth values, and of the sixteen of four, holds of all
abbrev Two : (Bool → Bool → Type 0) → Type 0
Two P = P true true × P true false × P false true × P false false

two : (P : Bool → Bool → Type 0) → Two P → (a b : Bool) → P a b
two P h true true = h.0
two P h true false = h.1
two P h false true = h.2
two P h false false = h.3

four : (P : Bool → Bool → Bool → Bool → Type 0) → Two (λ a b. Two (P a b)) → (a b c d : Bool) → P a b c d
four P h a b c d = two (P a b) (two (λ x y. Two (P x y)) h a b) c d

lacking : (a b : Bool) → xor a (a && b) ≡ (a && not b)
lacking = two (λ a b. xor a (a && b) ≡ (a && not b)) (refl, refl, refl, refl)

pub bit_without : (w x v : ℕ) → bit (bit_xor w (bit_and w x)) v ≡ (bit w v && not (bit x v))
bit_without w x v = rw (bit_xor_lem, bit_and_lem) (lacking (bit w v) (bit x v))

pub differ_bits : (p d q e : Bool) → (xor p q || xor d e) ≡ not (is (decision_by p d) (decision_by q e))
differ_bits =
    four
    (λ p d q e. (xor p q || xor d e) ≡ not (is (decision_by p d) (decision_by q e)))
    ((refl, refl, refl, refl), (refl, refl, refl, refl), (refl, refl, refl, refl), (refl, refl, refl, refl))

pub deny_bits : (p d cp cd : Bool) → decision_by ((p || cp) && not (d || cd)) (d || cd) ≡ next_of DenyOverrides (decision_by p d) (decision_by cp cd)
deny_bits =
    four
    (λ p d cp cd. decision_by ((p || cp) && not (d || cd)) (d || cd) ≡ next_of DenyOverrides (decision_by p d) (decision_by cp cd))
    ((refl, refl, refl, refl), (refl, refl, refl, refl), (refl, refl, refl, refl), (refl, refl, refl, refl))

abbrev permitted : (p d cp cd : Bool) → Bool
permitted p d cp cd = (p && not d) || (cp && not cd)

pub permit_bits : (p d cp cd : Bool)
    → decision_by (permitted p d cp cd || ((p || cp) && not (permitted d p cd cp))) ((d || cd) && not (permitted p d cp cd)) ≡ next_of PermitOverrides (decision_by p d) (decision_by cp cd)
permit_bits =
    four
    (λ p d cp cd. decision_by (permitted p d cp cd || ((p || cp) && not (permitted d p cd cp))) ((d || cd) && not (permitted p d cp cd)) ≡ next_of PermitOverrides (decision_by p d) (decision_by cp cd))
    ((refl, refl, refl, refl), (refl, refl, refl, refl), (refl, refl, refl, refl), (refl, refl, refl, refl))

pub first_bits : (p d cp cd : Bool) → decision_by (p || (cp && not (p || d))) (d || (cd && not (p || d))) ≡ next_of FirstApplicable (decision_by p d) (decision_by cp cd)
first_bits =
    four
    (λ p d cp cd. decision_by (p || (cp && not (p || d))) (d || (cd && not (p || d))) ≡ next_of FirstApplicable (decision_by p d) (decision_by cp cd))
    ((refl, refl, refl, refl), (refl, refl, refl, refl), (refl, refl, refl, refl), (refl, refl, refl, refl))

-- by which of the two match
abbrev one_of : (m cm x cx : Bool) → Bool
one_of m cm x cx = (m && cm) || ((x && (m && not (m && cm))) || (cx && (cm && not (m && cm))))

abbrev OnlyOne : (m cm p d cp cd : Bool) → Type 0
OnlyOne m cm p d cp cd =
    decision_by (one_of m cm p cp) (one_of m cm d cd)
    ≡ combined OnlyOneApplicable (record { matched = m; decision = decision_by p d } ∷ record { matched = cm; decision = decision_by cp cd } ∷ [])

pub only_one_bits : (m cm p d cp cd : Bool) → OnlyOne m cm p d cp cd
only_one_bits true true p d cp cd = four (OnlyOne true true) ((refl, refl, refl, refl), (refl, refl, refl, refl), (refl, refl, refl, refl), (refl, refl, refl, refl)) p d cp cd
only_one_bits true false p d cp cd = four (OnlyOne true false) ((refl, refl, refl, refl), (refl, refl, refl, refl), (refl, refl, refl, refl), (refl, refl, refl, refl)) p d cp cd
only_one_bits false true p d cp cd = four (OnlyOne false true) ((refl, refl, refl, refl), (refl, refl, refl, refl), (refl, refl, refl, refl), (refl, refl, refl, refl)) p d cp cd
only_one_bits false false p d cp cd = four (OnlyOne false false) ((refl, refl, refl, refl), (refl, refl, refl, refl), (refl, refl, refl, refl), (refl, refl, refl, refl)) p d cp cd
