-- A search over blocks of 64 requests for one that gets another decision.
use Prim.Native.Nat.{ℕ, ◌+◌, ◌*◌, ◌/◌, ◌≤◌, ◌<◌, zero-le}
use mathlib.Core.Path.{◌≡◌, sym, ap, ◌∙◌}
use mathlib.Core.Bool.{Bool, false}
use native.Mathlib.Omega.{arith}
use lib.Dec.{ltb}
use borrow.Author.Tests.{ltb-true, ltb-false}
use mathlib.Core.Option.{some}
use Rattle.std.specs.Prelude.{Option, Some, None}
use Rattle.meaning.specs.Text.{first_from}
use Rattle.laws.specs.Found.{found}
use Rattle.laws.proofs.Bools.{Test, passed, failed, test}
use Rattle.laws.proofs.Search.{first_is, first_absent}
use Rattle.outcomes.specs.Changes.{InBlock, FirstInBlock}

-- A search over the blocks: no request of those passed passes the test
abbrev pub NoneBelow : (ℕ → Bool) → ℕ → ℕ → Type 0
NoneBelow test space block = (m : ℕ) → m < space → m < 64 * block → test m ≡ false

module _ (tested : ℕ → Bool) (space block : ℕ) (before : NoneBelow tested space block) where
  pub block_passed : ((m : ℕ) → m < space → m / 64 ≡ block → tested m ≡ false) → NoneBelow tested space (block + 1)
  block_passed here m l below = go (test (ltb m (64 * block)))
    where
      go : Test (ltb m (64 * block)) → tested m ≡ false
      go (passed e) = before m l (ltb-true m (64 * block) e)
      go (failed e) = let over : 64 * block ≤ m = ltb-false m (64 * block) e in here m l (omega arith)

  pub block_searched : (o : Option ℕ) → InBlock tested space block o → o ≡ None → NoneBelow tested space (block + 1)
  block_searched None none e = block_passed (λ m l x. none m (omega arith) (omega arith) l)
  block_searched (Some r) first e = cc

  found_first : (r : ℕ) → FirstInBlock tested space block r → first_from tested 0 space ≡ some r
  found_first r first = first_is tested 0 space r (record { low = zero-le; high = omega (arith, first.within); holds = first.holds; no_earlier = λ m low earlier. go m earlier (test (ltb m (64 * block))) })
    where
      go : (m : ℕ) → m < r → Test (ltb m (64 * block)) → tested m ≡ false
      go m earlier (passed e) = before m (omega (arith, first.within)) (ltb-true m (64 * block) e)
      go m earlier (failed e) = first.none_earlier m (ltb-false m (64 * block) e) earlier

  pub block_found : (o : Option ℕ) (r : ℕ) → InBlock tested space block o → o ≡ Some r → Some r ≡ found (first_from tested 0 space)
  block_found None r none e = cc
  block_found (Some r0) r first e = sym e ∙ sym (ap found (found_first r0 first))

  pub none_found_at_all : space ≤ 64 * block → None ≡ found (first_from tested 0 space)
  none_found_at_all end = sym (ap found (first_absent tested 0 space (λ m low high. before m (omega arith) (omega arith))))
