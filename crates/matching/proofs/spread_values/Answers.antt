-- `spread_values`: the first v values are looked at, and no bit behind their requests is set. Assumes nothing.
use native.Mathlib.Omega.{arith}
use mathlib.Core.Path.{◌∙◌}
use Rattle.matching.proofs.Spreading.{spreads_none, next_room, spreads_set, spreads_skip, value_in, value_out, spreads_all}
use Rattle.matching.proofs.spread_values.Goals as goal
use Rattle.matching.proofs.spread_values.Goals.{then-rest-eq1, else-rest-eq1}

pub loop-v-init : goal.loop-v-init
loop-v-init c = spreads_none _ _ _

pub lay-requires : goal.lay-requires
lay-requires c =
    let turn = c.loop-v in
    (next_room _ _ _ _ _ _ _ _ turn.invariant c.loop-v-test.true c.requires.1, c.requires.2, turn.invariant.words)

pub overflow_add-at : goal.overflow_add-at
overflow_add-at c =
    let turn = c.loop-v in
    omega (arith, next_room _ _ _ _ _ _ _ _ turn.invariant c.loop-v-test.true c.requires.1)

pub loop-v-preserved : goal.loop-v-preserved
loop-v-preserved c =
    let turn = c.loop-v in
    let more = c.loop-v-test.true in
    let so_far = turn.invariant in
    let room = c.requires.1 in
    elim c.if-rest-eq1.branch [
      | then-rest-eq1 w ↦ rw w.to-is (spreads_set _ _ _ _ _ _ _ _ so_far more room _ (w.lay.auto.to ∙ so_far.words) c.requires.2 (value_in _ _ _ _ _ _ _ _ so_far more room w.if-rest-eq1.true) w.lay.ensures)
      | else-rest-eq1 w ↦ rw w.to-is (spreads_skip _ _ _ _ _ _ _ _ so_far more room (value_out _ _ _ _ _ _ _ _ so_far more room w.if-rest-eq1.false))
    ]

pub returns : goal.returns
returns c = spreads_all _ _ _ c.loop-v.invariant (omega arith)
