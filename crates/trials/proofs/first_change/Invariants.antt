-- `first_change`: no request of the blocks passed gets anything else. Assumes nothing.
use Rattle.table.specs.Shape.{hit_of}
use Rattle.differences.proofs.Blocks.{NoneBelow}
use Rattle.trials.specs.Decided.{apart_at}
use Rattle.trials.proofs.first_change.Given as goal

abbrev pub invariant-loop-block : goal.invariant-loop-block
invariant-loop-block l =
    let p = l.o.policy in
    NoneBelow (apart_at p.file.now p.places.now p.table.now p.shape.n (hit_of p.shape) l.struck l.rule) p.shape.space l.block
