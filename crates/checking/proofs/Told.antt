-- What the check tells: a refusal with its number and line, or none.
use Prim.Native.Nat.{ℕ, ◌≤◌}
use mathlib.Core.Path.{◌≡◌, refl, ◌∙◌, subst⁻¹}
use mathlib.Core.List.{[], ◌∷◌}
use native.Mathlib.Omega.{arith}
use Rattle.meaning.specs.Model.{Result, refused, given, ◌then◌}
use Rattle.meaning.specs.Reading.{Sofar, Tests, lowest}
use Rattle.meaning.specs.Claims.Texts.{All}
use Rattle.laws.proofs.Bools.{Test, passed, failed, test}
use Rattle.std.specs.Prelude.{Result as Outcome}
use Rattle.refusals.specs.declared.Refused.{Refused}
use Rattle.refusals.specs.declared.Refusal.{Refusal}
use Rattle.refusals.specs.Numbers.{number_of}
use Rattle.refusals.proofs.Numbers.{not_zero}
use Rattle.checking.specs.Tested.{number_told, line_told, CheckedAs}

-- a refusal's number is none of 0
pub counted : (why : Refusal) {n : ℕ} → number_of why ≡ n → n ≡ 0 → ⊥
counted why is none = not_zero why (is ∙ none)

-- what the check tells of a refusal, and where there is none
pub refusal_told : (r : Outcome (Unit {0}) Refused) (whole : Result Sofar) (n m : ℕ) → whole ≡ refused n m → (3 ≤ n) × (n ≤ 14) → m ≤ 199 → number_told r ≡ n → line_told r ≡ m → CheckedAs r whole
refusal_told r whole n m e (from_three, low) small number line = subst⁻¹ (CheckedAs r) e (record { number = number; line = line; from_three = from_three; low = low; small = small })

pub pass_told : (r : Outcome (Unit {0}) Refused) (whole : Result Sofar) (s : Sofar) → whole ≡ given s → number_told r ≡ 0 → line_told r ≡ 0 → CheckedAs r whole
pass_told r whole s e number line = subst⁻¹ (CheckedAs r) e (record { number = number; line = line })

-- and what it tells of what comes next
pub refused_on : (r : Outcome (Unit {0}) Refused) (x : Result Sofar) (f : Sofar → Result Sofar) → CheckedAs r x → (number_told r ≡ 0 → ⊥) → CheckedAs r (x then f)
refused_on r (refused n m) f t h = t
refused_on r (given s) f t h = absurd (h t.number)

pub passed_on : (r : Outcome (Unit {0}) Refused) (x : Result Sofar) → CheckedAs r x → number_told r ≡ 0 → (s : Sofar) × (x ≡ given s)
passed_on r (refused n m) t z = absurd (omega (arith, t.number, t.from_three))
passed_on r (given s) t z = (s, refl)

-- A refusal is 3 to 14
pub lowest_within : (ts : Tests) → All (λ t. (3 ≤ t.0) × (t.0 ≤ 14)) ts → (lowest ts ≡ 0 → ⊥) → (3 ≤ lowest ts) × (lowest ts ≤ 14)
lowest_within [] within h = absurd (h refl)
lowest_within (t ∷ ts) within h = go (test t.1) (lowest_within ts within.1)
  where
    go : Test t.1 → ((lowest ts ≡ 0 → ⊥) → (3 ≤ lowest ts) × (lowest ts ≤ 14)) → (3 ≤ lowest (t ∷ ts)) × (lowest (t ∷ ts) ≤ 14)
    go (passed e) later = rw e within.0
    go (failed e) later = rw e (later (λ z. h (rw e z)))
