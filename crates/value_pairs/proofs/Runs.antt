-- What numbers give, gathered run by run.
use mathlib.Core.Path.{◌≡◌, refl, sym, ap, ap₂, ◌∙◌}
use Prim.Native.Nat.{ℕ, zero, suc, ◌+◌, ◌*◌}
use native.Mathlib.Nat.{add-zero, zero-add, suc-mul, zero-mul}
use native.Mathlib.Omega.{arith}
use mathlib.Core.List.{[], ◌++◌}
use Rattle.meaning.specs.Text.{Bytes, gathered, counting}
use Rattle.printing.proofs.Walks.{gathered_last, gathered_more}

-- counted from 0 on
gathered_from : (F : ℕ → Bytes) (a b k : ℕ) → gathered F (counting (a + b) k) ≡ gathered (λ i. F (a + i)) (counting b k)
gathered_from F a b zero = refl
gathered_from F a b (suc k) =
    let next : suc (a + b) ≡ a + suc b = omega arith in
    ap (λ t. F (a + b) ++ t) (ap (λ n. gathered F (counting n k)) next ∙ gathered_from F a (suc b) k)

pub gathered_runs : (F : ℕ → Bytes) (runs behind : ℕ) → gathered F (counting 0 (runs * behind)) ≡ gathered (λ r. gathered (λ k. F (r * behind + k)) (counting 0 behind)) (counting 0 runs)
gathered_runs F zero behind = rw (zero-mul behind)
gathered_runs F (suc r) behind =
    let more : suc r * behind ≡ r * behind + behind = suc-mul r behind in
    let own : gathered F (counting (r * behind) behind) ≡ gathered (λ k. F (r * behind + k)) (counting 0 behind) = ap (λ n. gathered F (counting n behind)) (sym (add-zero (r * behind))) ∙ gathered_from F (r * behind) 0 behind in
    ap (λ n. gathered F (counting 0 n)) more
    ∙ gathered_more F 0 (r * behind) behind
    ∙ ap₂ (λ s t. s ++ t) (gathered_runs F r behind) (ap (λ n. gathered F (counting n behind)) (zero-add (r * behind)) ∙ own)
    ∙ sym (gathered_last (λ r. gathered (λ k. F (r * behind + k)) (counting 0 behind)) 0 r ∙ ap (λ n. gathered (λ r. gathered (λ k. F (r * behind + k)) (counting 0 behind)) (counting 0 r) ++ gathered (λ k. F (n * behind + k)) (counting 0 behind)) (zero-add r))

-- nothing at all
pub gathered_none : (F : ℕ → Bytes) (a k : ℕ) → ((n : ℕ) → F n ≡ []) → gathered F (counting a k) ≡ []
gathered_none F a zero h = refl
gathered_none F a (suc k) h = rw (h a) (gathered_none F (suc a) k h)
