-- `request_of`: the values from the place looked at on, with what is left of the number, weigh the number. Assumes nothing.
use Prim.Native.Nat.{ℕ, ◌-◌, ◌%◌, ◌≤◌, ◌<◌}
use mathlib.Core.Path.{◌≡◌, refl, ◌∙◌}
use native.Mathlib.Nat.{mod-lt}
use native.Mathlib.Omega.{arith}
use borrow.Author.Rules.{rules}
use lib.ListN.{length, take, get_or, length-set}
use lib.Seq.{drop-set-lt}
use Rattle.requests.proofs.Laws.{Below, fits, set_below, counts_positive, positive_at, weighed_all}
use Rattle.requests.proofs.Laid.{laid}
use Rattle.requests.proofs.Steps.{divided, settled}
use Rattle.requests.proofs.request_of.Goals as goal

none : {n : ℕ} (k : ℕ) → n ≤ k → k < n → ⊥
none k a b = omega arith

pub loop-i-init : goal.loop-i-init
loop-i-init c =
    let few = c.requires.0 in
    let six : length c.args.counts ≡ 6 = search rules in
    (search rules, weighed_all c.args.len c.args.len c.args.number c.args.counts _ (omega arith) refl, λ k a b. absurd (none k a b), refl)

pub nonzero_rem-values : goal.nonzero_rem-values
nonzero_rem-values c =
    let few = c.requires.0 in
    let six : length c.args.counts ≡ 6 = search rules in
    let positive = positive_at c.args.len (c.loop-i.i - 1) c.args.counts (omega arith) (omega arith) (counts_positive (take c.args.len c.args.counts) (omega (arith, c.requires.1))) in
    omega (arith, positive)

pub nonzero_div-rest : goal.nonzero_div-rest
nonzero_div-rest c =
    let few = c.requires.0 in
    let six : length c.args.counts ≡ 6 = search rules in
    let positive = positive_at c.args.len (c.loop-i.i - 1) c.args.counts (omega arith) (omega arith) (counts_positive (take c.args.len c.args.counts) (omega (arith, c.requires.1))) in
    omega (arith, positive)

pub loop-i-preserved : goal.loop-i-preserved
loop-i-preserved c =
    let few = c.requires.0 in
    let six : length c.args.counts ≡ 6 = search rules in
    let positive = positive_at c.args.len (c.loop-i.i - 1) c.args.counts (omega arith) (omega arith) (counts_positive (take c.args.len c.args.counts) (omega (arith, c.requires.1))) in
    let turn = c.loop-i in
    let six-now : length turn.values ≡ 6 = turn.invariant.0 in
    let j = turn.i - 1 in
    let v = turn.rest % get_or c.args.counts j 0 in (
      length-set turn.values j v ∙ six-now,
      divided c.args.len turn.i j c.args.counts turn.values (omega arith) (omega arith) (omega arith) (omega arith) turn.rest ∙ turn.invariant.1,
      λ k a b. set_below j v c.args.counts turn.values (omega arith) (mod-lt turn.rest positive) k (λ other. turn.invariant.2 k (omega arith) b),
      drop-set-lt c.args.len turn.values j v (omega arith) ∙ turn.invariant.3,
    )

pub returns : goal.returns
returns c =
    let turn = c.loop-i in
    let len = c.args.len in
    let counts = c.args.counts in
    let few = c.requires.0 in
    let six : length counts ≡ 6 = search rules in
    let six-now : length turn.values ≡ 6 = turn.invariant.0 in
    let none : turn.i ≡ 0 = omega arith in
    let below : Below len counts turn.values = λ k l. turn.invariant.2 k (omega arith) l in (
      laid c.args.several len turn.values _ (omega arith) (settled len turn.rest c.args.number counts turn.values (fits len counts turn.values (omega arith) (omega arith) below) (rw none at turn.invariant.1) c.requires.1) turn.invariant.3,
      record { few = few; below = below; small = c.requires.2 },
    )
