-- The step by quotient and remainder is the next request.
use mathlib.Core.Path.{◌≡◌, refl, sym, ap, ◌∙◌}
use Prim.Native.Nat.{ℕ, ◌+◌, ◌*◌, ◌/◌, ◌%◌, ◌<◌}
use native.Mathlib.Nat.{add-mul, mul_assoc, mod-lt, mod-eq_of_lt, mod_self, mul-add-mod_self_right, div-add-mod'}
use native.Mathlib.Omega.{arith}
use mathlib.Core.List.{List, [], ◌∷◌}
use Rattle.meaning.specs.Model.{product}
use Rattle.meaning.specs.Deciding.{Request, number_of, request_of, next_request, carry, stepped}
use Rattle.laws.proofs.Requests.{Fits, Positive, fits_positive, request_number, number_request, by_number_lem}

stepped_fits : (ss : List ℕ) (q : Request) → Fits ss q → Fits ss (stepped ss q)
stepped_fits [] [] f = tt
stepped_fits [] (v ∷ vs) f = absurd f
stepped_fits (s ∷ ss) [] f = absurd f
stepped_fits (s ∷ ss) (v ∷ vs) f = (mod-lt (v + carry ss vs) (omega (arith, f.0)), stepped_fits ss vs f.1)

-- what is carried out of the first attribute weighs the space: with it, the number is one more
carry_weighs : (ss : List ℕ) (q : Request) → Fits ss q → carry ss q * product ss + number_of ss (stepped ss q) ≡ number_of ss q + 1
carry_weighs [] [] f = refl
carry_weighs [] (v ∷ vs) f = absurd f
carry_weighs (s ∷ ss) [] f = absurd f
carry_weighs (s ∷ ss) (v ∷ vs) f = regroup (carry ss vs) (product ss) (number_of ss (stepped ss vs)) (number_of ss vs) (carry_weighs ss vs f.1)
  where
    regroup : (c p m n : ℕ) → c * p + m ≡ n + 1 → (v + c) / s * (s * p) + ((v + c) % s * p + m) ≡ v * p + n + 1
    regroup c p m n e =
        let whole : ((v + c) / s * s + (v + c) % s) * p ≡ (v + c) * p = ap (λ x. x * p) (div-add-mod' (v + c) s) in
        omega (arith, e, whole, add-mul ((v + c) / s * s) ((v + c) % s) p, add-mul v c p, mul_assoc ((v + c) / s) s p)

pub stepped_next : (ss : List ℕ) (q : Request) → Fits ss q → stepped ss q ≡ next_request ss q
stepped_next ss q f =
    let fits = stepped_fits ss q f in
    let n = number_of ss (stepped ss q) in
    let below = (request_number ss (stepped ss q) (fits_positive ss q f) fits).1 in
    by_number_lem ss (stepped ss q) _ fits (sym (mod-eq_of_lt below) ∙ sym (mul-add-mod_self_right (carry ss q) (product ss) n) ∙ ap (λ x. x % product ss) (carry_weighs ss q f))

-- By numbers: one higher from each but the last, 0 from the last
module _ (ss : List ℕ) (n : ℕ) (positive : Positive ss) where
  by_one : n < product ss → stepped ss (request_of ss n) ≡ request_of ss ((n + 1) % product ss)
  by_one l =
      let (number, fits) = number_request ss n positive l in
      stepped_next ss (request_of ss n) fits ∙ ap (λ k. request_of ss ((k + 1) % product ss)) number

  pub one_higher : n + 1 < product ss → stepped ss (request_of ss n) ≡ request_of ss (n + 1)
  one_higher l = by_one (omega arith) ∙ ap (request_of ss) (mod-eq_of_lt l)

  pub from_last : n + 1 ≡ product ss → stepped ss (request_of ss n) ≡ request_of ss 0
  from_last e = by_one (omega (arith, e)) ∙ ap (request_of ss) (ap (λ k. k % product ss) e ∙ mod_self (product ss))
