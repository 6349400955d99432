-- What a function gives on each number, laid over a list place by place.
use Prim.Native.Nat.{ℕ, zero, suc, ◌+◌, ◌-◌, ◌≤◌, ◌<◌}
use mathlib.Core.Path.{◌≡◌, refl, ap, ◌∙◌}
use mathlib.Core.List.{List, ◌++◌, map}
use native.Mathlib.Nat.{zero-add, add-zero}
use native.Mathlib.Numerals.{add-one}
use native.Mathlib.Omega.{arith}
use lib.ListN.{length, drop, get_or, set, length-set, get_or-append}
use lib.Seq.{sets, sets-eq}
use Rattle.meaning.specs.declared.Decision.{Decision}
use Rattle.meaning.specs.Text.{counting}
use Rattle.laws.proofs.Search.{counting_only}
use Rattle.laws.proofs.Decided.{map_each}
use Rattle.table.specs.declared.Row.{Row}
use Rattle.table.specs.declared.Shape.{Shape}
use Rattle.table.specs.Shape.{hit_of}
use Rattle.blocks.specs.declared.Effects.{Effects}
use Rattle.outcomes.specs.Decided.{none_struck, outcome_at, decided_at}
use Rattle.outcomes.specs.PolicyTable.{OutcomesLaid}

module _ {A : Type 0} (f : ℕ → A) where
  pub length_counted : (m k : ℕ) → length (map f (counting m k)) ≡ k
  length_counted m zero = refl
  length_counted m (suc k) = ap suc (length_counted (suc m) k)

  pub counted_at : (none : A) (m k r : ℕ) → r < k → get_or (map f (counting m k)) r none ≡ f (m + r)
  counted_at none m zero r l = let no : ⊥ = omega arith in absurd no
  counted_at none m (suc k) zero l = rw add-zero
  counted_at none m (suc k) (suc r) l = let at : m + suc r ≡ suc m + r = omega arith in rw at (counted_at none (suc m) k r (omega arith))

  -- over d from place m on, up to place n
  abbrev laid : List A → ℕ → ℕ → List A
  laid d n m = sets d m (map f (counting m (n - m)))

  -- Up to place m, d is what all n leave in `old`: what is still to come completes it
  pub record Lays (n : ℕ) (old d : List A) (m : ℕ) : Type 0 where
    pub size : length d ≡ length old
    pub rest : laid d n m ≡ laid old n 0

  pub lays_none : (n : ℕ) (old : List A) → Lays n old old 0
  lays_none n old = record { size = refl; rest = refl }

  pub lays_next : {n m : ℕ} {old d : List A} (x : A) → m < n → x ≡ f m → Lays n old d m → Lays n old (set d m x) (m + 1)
  lays_next {n} {m} {old} {d} x l e so_far =
      let more : n - m ≡ suc (n - (m + 1)) = omega arith in
      let next : laid (set d m x) n (m + 1) ≡ laid d n m = rw (more, e, add-one m) in
      record { size = length-set d m x ∙ so_far.size; rest = next ∙ so_far.rest }

  pub lays_all : {n m : ℕ} {old d : List A} → n ≤ length old → m ≡ n → Lays n old d m → d ≡ map f (counting 0 n) ++ drop n old
  lays_all {n} {m} {old} {d} room end so_far =
      let none : n - m ≡ 0 = omega arith in
      let whole : n - 0 ≡ n = omega arith in
      let count : length (map f (counting 0 n)) ≡ n = length_counted 0 n in
      let over : laid old n 0 ≡ map f (counting 0 n) ++ drop (0 + length (map f (counting 0 n))) old = rw whole (sets-eq (map f (counting 0 n)) old 0 (omega arith)) in
      rw none at so_far.rest ∙ rw (count, zero-add) at over

-- what stands at the places of a list laid down
pub laid_at_lem : {A : Type 0} (none : A) (F : ℕ → A) (k : ℕ) (behind : List A) {l : List A} → l ≡ map F (counting 0 k) ++ behind → (m : ℕ) → m < k → get_or l m none ≡ F m
laid_at_lem none F k behind {l} e m h =
    ap (λ xs. get_or xs m none) e
    ∙ get_or-append (map F (counting 0 k)) behind none m (omega (arith, length_counted F 0 k))
    ∙ counted_at F none 0 k m h
    ∙ ap F (zero-add m)

-- what words tell is what each request gets
pub told_laid : (t : List Row) (outcomes : List Effects) (s : Shape) → OutcomesLaid t none_struck outcomes s → (behind : List Decision)
    → map (outcome_at outcomes) (counting 0 s.space) ++ behind ≡ map (decided_at t s.n (hit_of s) none_struck) (counting 0 s.space) ++ behind
told_laid t outcomes s holds behind =
    ap (λ xs. xs ++ behind) (map_each _ _ (counting 0 s.space) (λ m i. holds.outcomes_are m (omega (arith, (counting_only 0 s.space m i).1))))
