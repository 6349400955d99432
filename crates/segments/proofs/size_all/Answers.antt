-- `size_all`: each request is counted at the first one of its segment. Assumes nothing.
use native.Mathlib.Omega.{arith}
use lib.ListN.{length-set}
use Rattle.segments.proofs.Chains.{chained_none}
use Rattle.segments.proofs.Sizing.{first_of, sized_none, counted_most, sized_next, sized_all}
use Rattle.segments.proofs.size_all.Goals as goal

pub loop-m-init : goal.loop-m-init
loop-m-init c = (sized_none _ _, chained_none _)

pub enter-first-requires : goal.enter-first-requires
enter-first-requires c = (c.loop-m.invariant.1, omega arith, omega arith)

pub bounds-sizes-first : goal.bounds-sizes-first
bounds-sizes-first c = rw length-set (omega arith)

pub overflow_add-sizes : goal.overflow_add-sizes
overflow_add-sizes c =
    let turn = c.loop-m in
    let first = first_of c.args.words.now turn.m _ c.enter-first.ensures.0 in
    omega (arith, counted_most turn.invariant.0 (omega arith) _ first)

pub bounds-sizes-first-in-loop-m : goal.bounds-sizes-first-in-loop-m
bounds-sizes-first-in-loop-m c = rw length-set (omega arith)

pub loop-m-preserved : goal.loop-m-preserved
loop-m-preserved c =
    let turn = c.loop-m in
    let first = first_of c.args.words.now turn.m _ c.enter-first.ensures.0 in
    (sized_next turn.invariant.0 (omega arith) _ first, c.enter-first.ensures.2)

pub returns : goal.returns
returns c = sized_all _ c.requires.1 (omega arith) c.loop-m.invariant.0
