-- `PolicyOutcomes::first_given`: none of those passed, and none that is left out, gets other obligations. Assumes nothing.
use Prim.Native.Nat.{ℕ, ◌<◌}
use mathlib.Core.Path.{◌≡◌}
use mathlib.Core.Bool.{true, false}
use Rattle.meaning.specs.Deciding.{bit}
use Rattle.differences.specs.Marks.{others_given}
use Rattle.differences.proofs.PolicyOutcomes.first_given.Given as goal

abbrev pub invariant-loop-v : goal.invariant-loop-v
invariant-loop-v l =
    let p = l.self.policy in
    let others = others_given p.file.now p.places.now p.shape.n l.one l.other l.permits in
    ((u : ℕ) → u < l.v → bit l.on u ≡ true → others u ≡ false)
    × ((u : ℕ) → bit l.on u ≡ true → bit l.left u ≡ false → others u ≡ false)
