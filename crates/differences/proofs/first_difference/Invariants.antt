-- `first_difference`: no request of the blocks passed gets anything else. Assumes nothing.
use Rattle.table.specs.Shape.{hit_of}
use Rattle.differences.specs.Apart.{apart}
use Rattle.differences.proofs.Blocks.{NoneBelow}
use Rattle.differences.proofs.first_difference.Given as goal

abbrev pub invariant-loop-block : goal.invariant-loop-block
invariant-loop-block l =
    let p = l.policy in
    NoneBelow (apart p.file.now p.places.now p.table.now p.shape.n (hit_of p.shape) l.before l.struck) p.shape.space l.block
