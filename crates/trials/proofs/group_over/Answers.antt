-- `group_over`: one less deep than the rule, so before it. Assumes nothing.
use Prim.Native.Nat.{ℕ, zero, suc, ◌+◌, ◌≤◌, ◌<◌}
use mathlib.Core.Path.{◌≡◌, sym, ap, ◌∙◌}
use mathlib.Core.Logic.{◌⊎◌, inl, inr}
use mathlib.Core.Bool.{Bool, true, false}
use native.Mathlib.Omega.{arith}
use Rattle.meaning.specs.declared.Word.{Word}
use Rattle.meaning.specs.declared.Word.TheVariants.{Permit, Deny, DenyOverrides, PermitOverrides, FirstApplicable, OnlyOneApplicable}
use Rattle.table.specs.Rows.{depth_of, word_at, word_number}
use Rattle.trials.proofs.group_over.Goals as goal

-- an algorithm that looks at its children's decisions alone, and its word's number
abbrev Decisive : Word → Type 0
Decisive w = (w ≡ DenyOverrides) ⊎ ((w ≡ PermitOverrides) ⊎ (w ≡ FirstApplicable))

abbrev decides : Word → Bool
decides Permit = false
decides Deny = false
decides DenyOverrides = true
decides PermitOverrides = true
decides FirstApplicable = true
decides OnlyOneApplicable = false

by_number : (k : ℕ) → decides (word_at k) ≡ true → (2 ≤ k) × (k < 5)
by_number zero h = absurd (cc)
by_number (suc zero) h = absurd (cc)
by_number (suc (suc zero)) h = (omega arith, omega arith)
by_number (suc (suc (suc zero))) h = (omega arith, omega arith)
by_number (suc (suc (suc (suc zero)))) h = (omega arith, omega arith)
by_number (suc (suc (suc (suc (suc k))))) h = absurd (cc)

decisive_word : (w : Word) (k : ℕ) → w ≡ word_at k → Decisive w → (2 ≤ k) × (k < 5)
decisive_word w k e (inl h) = by_number k (ap decides (sym e ∙ h))
decisive_word w k e (inr (inl h)) = by_number k (ap decides (sym e ∙ h))
decisive_word w k e (inr (inr h)) = by_number k (ap decides (sym e ∙ h))

pub returns-in-DenyOverrides : goal.returns-in-DenyOverrides
returns-in-DenyOverrides c =
    let args = c.args in
    let over = c.over-up in
    let up = over.result in
    let (group, decisive) = decisive_word c.word_at.result (word_number args.table.now up) c.word_at.ensures c.in-DenyOverrides.is in
    let deep : depth_of args.table.now args.rule ≡ depth_of args.table.now up + 1 = omega (arith, c.depth_at-2.ensures.0, c.depth_at.ensures.0, c.if-depth_at.false) in
    let same : (up ≡ args.rule → ⊥) = λ e. let no : ⊥ = omega (arith, ap (depth_of args.table.now) e) in absurd no in
    record {
      above = over.ensures.above;
      earlier = omega (arith, over.ensures.above.within, same);
      one_deeper = omega arith;
      group = group;
      decisive = decisive;
    }
