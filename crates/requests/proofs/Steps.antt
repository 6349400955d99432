-- From a request to the next and from a number to its request, by the last attribute first: one number changed at a time.
use Prim.Native.Nat.{ℕ, zero, suc, ◌+◌, ◌*◌, ◌/◌, ◌%◌, ◌≤◌, ◌<◌}
use mathlib.Core.Path.{◌≡◌, refl, ◌∙◌}
use mathlib.Core.List.{List, ◌∷◌}
use native.Mathlib.Nat.{zero-mul, suc-mul, mod-lt, div-add-mod', div-lt_iff_lt-mul}
use native.Mathlib.Omega.{arith}
use lib.ListN.{length, take, drop, get_or, set, length-set}
use lib.Seq.{get_or-set_same, get_or-set_other, take-set-lt, drop-set-lt}
use Rattle.meaning.specs.Model.{product}
use Rattle.meaning.specs.Deciding.{request_of, next_request, carry, stepped}
use Rattle.laws.proofs.Requests.{Fits, by_number_lem}
use Rattle.laws.proofs.Carrying.{stepped_next}
use Rattle.requests.proofs.Laws.{weighed, weigh, rest_cons, rest_none}

-- A step under way: the values from place i on are the step's and the carry is what they carry on; those before are as they were
pub record Carried (n i carried : ℕ) (cs vs first : List ℕ) : Type 0 where
  pub carries : carried ≡ carry (drop i (take n cs)) (drop i (take n first))
  pub behind : drop i (take n vs) ≡ stepped (drop i (take n cs)) (drop i (take n first))
  pub before : (k : ℕ) → k < i → get_or vs k 0 ≡ get_or first k 0

pub carried_none : (n : ℕ) (cs vs : List ℕ) → n ≤ length cs → n ≤ length vs → Carried n n 1 cs vs vs
carried_none n cs vs a b =
    let counts = rest_none n n cs a refl in
    let values = rest_none n n vs b refl in
    record { carries = rw counts; behind = rw (counts, values); before = λ k l. refl }

-- what is left is below the count, and at most 1 is carried on
pub parts_small : (v c carried : ℕ) → v < c → carried ≤ 1 → ((v + carried) % c < c) × ((v + carried) / c ≤ 1)
parts_small v c carried l h =
    let quotient : (v + carried) / c < 2 = (div-lt_iff_lt-mul {k = c} {x = v + carried} {y = 2} (omega arith)).1 (omega arith) in
    (mod-lt (v + carried) (omega arith), omega arith)

module _ (n i j : ℕ) (cs vs : List ℕ) (before : i ≡ j + 1) (l : j < n) (a : n ≤ length cs) (b : n ≤ length vs) where
  -- one value set: there it stands, and what lies behind it is as it was
  here : (x : ℕ) → get_or (set vs j x) j 0 ≡ x
  here x = get_or-set_same vs j x 0 (omega arith)

  later : (x : ℕ) → drop (j + 1) (take n (set vs j x)) ≡ drop (j + 1) (take n vs)
  later x = rw (take-set-lt n vs j x l) (drop-set-lt (j + 1) (take n vs) j x (omega arith))

  placed : (x : ℕ) → drop j (take n (set vs j x)) ≡ x ∷ drop i (take n vs)
  placed x = rest_cons n j (set vs j x) l (omega (arith, length-set vs j x)) ∙ rw (here x, later x, ← before)

  pub carried_on : (carried count : ℕ) (first : List ℕ) → count ≡ get_or cs j 0 → n ≤ length first → Carried n i carried cs vs first
      → Carried n j ((get_or vs j 0 + carried) / count) cs (set vs j ((get_or vs j 0 + carried) % count)) first
  carried_on carried count first is few c =
      let was : get_or vs j 0 ≡ get_or first j 0 = c.before j (omega arith) in
      let counts = rest_cons n j cs l a in
      let values = rest_cons n j first l few in
      record {
        carries = rw (is, counts, values, ← before, was, c.carries);
        behind = placed _ ∙ rw (is, counts, values, ← before, was, c.carries, c.behind);
        before = λ k h. get_or-set_other vs j k _ 0 (omega arith) ∙ c.before k (omega arith);
      }

  -- a number's remainder is the value, its quotient is left
  pub divided : (t : ℕ) → weighed n j (t / get_or cs j 0) cs (set vs j (t % get_or cs j 0)) ≡ weighed n i t cs vs
  divided t =
      let c = get_or cs j 0 in
      let now = set vs j (t % c) in
      let same : t / c * c + get_or now j 0 ≡ t = rw (here (t % c)) (div-add-mod' t c) in
      weigh n j cs now l a (omega (arith, length-set vs j (t % c))) (t / c) ∙ rw (same, later (t % c), ← before)

pub carried_all : (n carried : ℕ) (cs vs first : List ℕ) → Fits (take n cs) (take n first) → Carried n 0 carried cs vs first → take n vs ≡ next_request (take n cs) (take n first)
carried_all n carried cs vs first fits c = c.behind ∙ stepped_next (take n cs) (take n first) fits

pub settled : (n t number : ℕ) (cs vs : List ℕ) → Fits (take n cs) (take n vs) → weighed n 0 t cs vs ≡ number → number < product (take n cs) → take n vs ≡ request_of (take n cs) number
settled n zero number cs vs f e l = by_number_lem (take n cs) (take n vs) number f (omega (arith, e, zero-mul (product (take n cs))))
settled n (suc t) number cs vs f e l = let no : ⊥ = omega (arith, e, suc-mul t (product (take n cs))) in absurd no
