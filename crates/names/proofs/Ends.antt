-- Equal names end with the same letter.
use Prim.Native.Nat.{ℕ, ◌+◌, ◌-◌, ◌≤◌, ◌<◌}
use mathlib.Core.Path.{◌≡◌, refl, sym, ap, ◌∙◌}
use mathlib.Core.Logic.{◌≢◌}
use mathlib.Core.Bool.{true, false}
use native.Mathlib.Omega.{arith}
use lib.Dec.{eqb}
use lib.ListN.{length, take, drop, get_or, length-drop}
use lib.Seq.{get_or-take, get_or-drop, length-take-le}
use borrow.Author.Tests.{eqb-false, not-true}
use Rattle.meaning.specs.Text.{Bytes, folded, lower, same_name}
use Rattle.laws.proofs.Bools.{Test, passed, failed, test, contradiction}
use Rattle.laws.proofs.Text.{same_apart}
use Rattle.names.specs.Letters.{caseless}
use Rattle.names.specs.Ends.{ends_otherwise}
use Rattle.names.proofs.Letters.{other_caseless, lower_at, lower_length}

-- A text that ends otherwise than a name
pub other_end : (f name : Bytes) (start end : ℕ) → start ≤ end → end ≤ length f → ends_otherwise f end name ≡ true → same_name name (take (end - start) (drop start f)) ≡ false
other_end f name start end before inside other = same_apart (lower name) (lower part) (λ e. go e (test (eqb (length name) 0)))
  where
    part : Bytes
    part = take (end - start) (drop start f)

    last_letter : lower name ≡ lower part → (length name ≡ 0 → ⊥) → folded (get_or name (length name - 1) 0) ≡ folded (get_or f (end - 1) 0)
    last_letter e some =
        let size : length name ≡ end - start = sym (lower_length name) ∙ ap length e ∙ lower_length part ∙ length-take-le (end - start) (drop start f) (omega (arith, length-drop start f)) in
        let place : start + (length name - 1) ≡ end - 1 = omega arith in
        let here : length name - 1 < end - start = omega arith in
        let last : get_or part (length name - 1) 0 ≡ get_or f (end - 1) 0 = rw (get_or-take, get_or-drop, place) in
        sym (lower_at name (length name - 1)) ∙ ap (λ x. get_or x (length name - 1) 0) e ∙ lower_at part (length name - 1) ∙ ap folded last

    go : lower name ≡ lower part → Test (eqb (length name) 0) → ⊥
    go e (passed none) = contradiction {b = false} (rw none at other) refl
    go e (failed some) =
        let x = get_or name (length name - 1) 0 in
        let y = get_or f (end - 1) 0 in
        let apart : caseless x ≢ caseless y = eqb-false (caseless x) (caseless y) (not-true (eqb (caseless x) (caseless y)) (rw some at other)) in
        other_caseless x y apart (last_letter e (eqb-false (length name) 0 some))
