-- A request whole: its values and the places behind them.
use Prim.Native.Nat.{ℕ, zero, suc, ◌-◌, ◌≤◌}
use mathlib.Core.Path.{◌≡◌, sym, ap, ◌∙◌}
use mathlib.Core.Bool.{Bool}
use mathlib.Core.List.{List, ◌++◌}
use native.Mathlib.Nat.{sub-zero}
use native.Mathlib.Omega.{arith}
use lib.ListN.{length, take, drop, replicate, take-append-drop}
use lib.Seq.{length-take-le, take-append_seam}
use Rattle.requests.specs.declared.Request.{Request}
use Rattle.requests.specs.Values.{values_of, request_with, revalued}

pub by_parts : (n : ℕ) (vs first behind : List ℕ) → take n vs ≡ first → drop n vs ≡ behind → vs ≡ first ++ behind
by_parts n vs first behind p q = sym (take-append-drop n vs) ∙ λ i. p i ++ q i

pub drop_zeros : (n m : ℕ) → drop n (replicate {A = ℕ} m 0) ≡ replicate (m - n) 0
drop_zeros zero m = rw sub-zero
drop_zeros (suc n) zero = let none : 0 - suc n ≡ 0 = omega arith in rw none
drop_zeros (suc n) (suc m) = let less : suc m - suc n ≡ m - n = omega arith in rw less (drop_zeros n m)

-- the first n values are these, and the places behind them are as zeros have them
pub laid : (bs : List Bool) (n : ℕ) (vs q : List ℕ) → n ≤ length vs → take n vs ≡ q → drop n vs ≡ drop n (replicate 6 0) → record { several = bs; values = vs; len = n } ≡ request_with bs q
laid bs n vs q few p z =
    let count : n ≡ length q = sym (length-take-le n vs few) ∙ ap length p in
    let behind : drop n vs ≡ replicate (6 - length q) 0 = z ∙ drop_zeros n 6 ∙ ap (λ k. replicate (6 - k) 0) count in
    λ i. record { several = bs; values = by_parts n vs q (replicate (6 - length q) 0) p behind i; len = count i }

pub changed : (q : Request) (vs next : List ℕ) → take q.len vs ≡ next → drop q.len vs ≡ drop q.len q.values → record { several = q.several; values = vs; len = q.len } ≡ revalued q next
changed q vs next p z = λ i. record { several = q.several; values = by_parts q.len vs next (drop q.len q.values) p z i; len = q.len }

-- its values again
pub values_with : (bs : List Bool) (q : List ℕ) → values_of (request_with bs q) ≡ q
values_with bs q = take-append_seam q (replicate (6 - length q) 0)
