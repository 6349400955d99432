-- `Request::next`: the values passed are the step's, and what they carry on is carried. Assumes nothing.
use Prim.Native.Nat.{ℕ, ◌+◌, ◌-◌, ◌%◌, ◌<◌}
use mathlib.Core.Path.{◌≡◌, refl, ◌∙◌, subst}
use native.Mathlib.Omega.{arith}
use borrow.Author.Rules.{rules}
use lib.ListN.{length, get_or, length-set}
use lib.Seq.{drop-set-lt}
use Rattle.requests.proofs.Laws.{fits, set_below, small_at}
use Rattle.requests.proofs.Laid.{changed}
use Rattle.requests.proofs.Steps.{Carried, carried_none, carried_on, carried_all, parts_small}
use Rattle.requests.proofs.Request.next.Goals as goal

pub loop-i-init : goal.loop-i-init
loop-i-init c =
    let few = c.requires.few in
    let six : length c.args.counts ≡ 6 = search rules in
    let six-first : length c.args.self.values ≡ 6 = search rules in
    (search rules, omega arith, c.requires.below, carried_none c.args.self.len c.args.counts c.args.self.values (omega arith) (omega arith), refl, λ k l. small_at c.args.self.len k c.args.counts c.args.self.values l (omega arith) (omega arith) c.requires.below c.requires.small)

pub overflow_cast-values : goal.overflow_cast-values
overflow_cast-values c =
    let turn = c.loop-i in
    let j = turn.i - 1 in
    let low : get_or turn.values j 0 < get_or c.args.counts j 0 = turn.invariant.2 j (omega arith) in
    let parts = parts_small (get_or turn.values j 0) (get_or c.args.counts j 0 - 1 + 1) turn.carry (omega arith) turn.invariant.1 in
    omega (arith, turn.invariant.5 j (omega arith))

pub loop-i-preserved : goal.loop-i-preserved
loop-i-preserved c =
    let turn = c.loop-i in
    let len = c.args.self.len in
    let counts = c.args.counts in
    let few = c.requires.few in
    let six : length counts ≡ 6 = search rules in
    let six-now : length turn.values ≡ 6 = turn.invariant.0 in
    let six-first : length c.args.self.values ≡ 6 = search rules in
    let j = turn.i - 1 in
    let low : get_or turn.values j 0 < get_or counts j 0 = turn.invariant.2 j (omega arith) in
    let count : ℕ = get_or counts j 0 - 1 + 1 in
    let same : count ≡ get_or counts j 0 = omega arith in
    let parts = parts_small (get_or turn.values j 0) count turn.carry (omega arith) turn.invariant.1 in
    let left = (get_or turn.values j 0 + turn.carry) % count in (
      length-set turn.values j left ∙ six-now,
      parts.1,
      λ k l. set_below j left counts turn.values (omega arith) (omega (arith, parts.0, same)) k (λ _. turn.invariant.2 k l),
      carried_on len turn.i j counts turn.values (omega arith) (omega arith) (omega arith) (omega arith) turn.carry count c.args.self.values same (omega arith) turn.invariant.3,
      drop-set-lt len turn.values j left (omega arith) ∙ turn.invariant.4,
      turn.invariant.5,
    )

pub returns : goal.returns
returns c =
    let turn = c.loop-i in
    let len = c.args.self.len in
    let counts = c.args.counts in
    let few = c.requires.few in
    let six : length counts ≡ 6 = search rules in
    let six-first : length c.args.self.values ≡ 6 = search rules in
    let none : turn.i ≡ 0 = omega arith in (
      changed c.args.self turn.values _
          (carried_all len turn.carry counts turn.values c.args.self.values (fits len counts c.args.self.values (omega arith) (omega arith) c.requires.below) (subst (λ i. Carried len i turn.carry counts turn.values c.args.self.values) none turn.invariant.3))
          turn.invariant.4,
      record { few = few; below = turn.invariant.2; small = c.requires.small },
    )
