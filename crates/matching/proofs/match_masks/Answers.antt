-- `match_masks`: the plane has the requests of the attributes looked at. Assumes nothing.
use Prim.Native.Nat.{◌-◌}
use native.Mathlib.Omega.{arith}
use mathlib.Core.Path.{◌≡◌}
use lib.ListN.{length}
use borrow.Author.Rules.{rules}
use Rattle.matching.proofs.Targets.{looks_none, size_some, count_some, next_small, looks_next}
use Rattle.matching.proofs.match_masks.Goals as goal

pub loop-a-init : goal.loop-a-init
loop-a-init c = (search rules, looks_none _ _ _ _ (search rules) (search rules) c.requires.0 (search rules))

pub spread-plane-requires : goal.spread-plane-requires
spread-plane-requires c =
    let turn = c.loop-a in
    let more = c.loop-a-test.true in
    let pre = c.requires in
    let six-masks : length c.args.masks ≡ 6 = search rules in
    let letters : length c.args.several ≡ 6 = search rules in
    let six : length c.args.counts ≡ 6 = search rules in (
      size_some _ _ _ _ letters six-masks pre.0 six pre.1 pre.2 _ _ _ turn.invariant.1 more,
      count_some _ _ _ _ letters six-masks pre.0 six pre.1 pre.2 _ _ _ turn.invariant.1 more,
      next_small _ _ _ _ letters six-masks pre.0 six pre.1 pre.2 _ _ _ turn.invariant.1 more,
      turn.invariant.1.bits.clear,
      turn.invariant.0,
      pre.3 (turn.a - 1) (omega (arith, turn.invariant.1.few)),
    )

pub overflow_mul-size : goal.overflow_mul-size
overflow_mul-size c =
    let turn = c.loop-a in
    let more = c.loop-a-test.true in
    let pre = c.requires in
    let six-masks : length c.args.masks ≡ 6 = search rules in
    let letters : length c.args.several ≡ 6 = search rules in
    let six : length c.args.counts ≡ 6 = search rules in
    omega (arith, next_small _ _ _ _ letters six-masks pre.0 six pre.1 pre.2 _ _ _ turn.invariant.1 more)

pub loop-a-preserved : goal.loop-a-preserved
loop-a-preserved c =
    let turn = c.loop-a in
    let more = c.loop-a-test.true in
    let pre = c.requires in
    let six-masks : length c.args.masks ≡ 6 = search rules in
    let letters : length c.args.several ≡ 6 = search rules in
    let six : length c.args.counts ≡ 6 = search rules in
    (search rules, looks_next _ _ _ _ letters six-masks pre.0 six pre.1 pre.2 _ _ _ turn.invariant.1 more _ c.spread-plane.ensures)

pub returns : goal.returns
returns c =
    let turn = c.loop-a in
    let first : turn.a ≡ 0 = omega arith in
    let all = rw first at turn.invariant.1 in
    record { bits = λ m l. all.bits.bits m (rw all.all l); clear = λ m a b. all.bits.clear m (rw all.all a) b }
