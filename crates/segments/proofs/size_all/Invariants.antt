-- `size_all`: each request is counted at the first one of its segment. Assumes nothing.
use Rattle.segments.specs.Chains.{Chained}
use Rattle.segments.proofs.Sizing.{Sized}
use Rattle.segments.proofs.size_all.Given as goal

abbrev pub invariant-loop-m : goal.invariant-loop-m
invariant-loop-m l = Sized l.words l.initial.sizes l.sizes l.m × Chained l.words l.heads l.links l.m
