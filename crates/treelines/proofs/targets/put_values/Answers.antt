-- `put_values` meets its contract. The invariant is `Walked`: the names stored and those left are all names. The measure is what is left of the values.
use Rattle.treelines.proofs.Values.{Passed, walk_starts, walk_names, walk_passes, walk_goes_on, walk_ends}
use Rattle.treelines.proofs.targets.put_values.Goals as goal
use Rattle.treelines.proofs.targets.put_values.Goals.{Joined-left-eq1, then-left-eq1, else-left-eq1}

pub loop-left-init : goal.loop-left-init
loop-left-init c = walk_starts c.args.values.now c.args.mask c.args.sink.now

pub end_of-behind-requires : goal.end_of-behind-requires
end_of-behind-requires c = c.loop-left.invariant.here

-- the names up to that of the value at hand
passed : (c : Joined-left-eq1) → Passed c.args.values.now c.args.mask c.args.sink.now c.end_of-behind.result c.loop-left.left c.if-left-eq1.later c.if-left-eq1.sink
passed c =
    let end = c.end_of-behind.ensures in
    elim c.if-left-eq1.branch [
      | then-left-eq1 w ↦ rw (w.sink-is, w.later-is) (walk_names c.loop-left.invariant end.value end.within.1 w.if-left-eq1.true w.put_value.ensures)
      | else-left-eq1 w ↦ rw (w.sink-is, w.later-is) (walk_passes c.loop-left.invariant end.value end.within.1 w.if-left-eq1.false)
    ]

pub returns-then-behind-values : goal.returns-then-behind-values
returns-then-behind-values c = walk_ends (passed (goal.at.returns-then-behind-values c).Joined-left-eq1) c.requires.0 c.if-behind-values.true

pub loop-left-preserved : goal.loop-left-preserved
loop-left-preserved c = walk_goes_on (passed (goal.at.loop-left-preserved c).Joined-left-eq1) c.if-behind-values.false
