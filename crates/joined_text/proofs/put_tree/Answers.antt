-- `put_tree`: each turn stores one line. Assumes nothing.
use native.Mathlib.Omega.{arith}
use borrow.Author.Rules.{rules}
use Rattle.joined_text.proofs.Walk.{begun, all_stored, next_fits, next_length, next_inside, one_more}
use Rattle.joined_text.proofs.put_tree.Goals as goal

pub loop-start-init : goal.loop-start-init
loop-start-init c =
    begun c.requires.0

pub put_line-requires : goal.put_line-requires
put_line-requires c =
    let l = c.loop-start in
    let e = c.end_of-to in
    let size = next_length l.invariant e.ensures.value e.ensures.within.1 (search rules) in (
      next_fits l.invariant e.ensures.value e.ensures.within.1 (search rules),
      omega (arith, size, c.requires.0.short, e.ensures.within.1),
      c.requires.1,
      omega (arith, c.requires.2, l.invariant.within, l.invariant.inside, c.requires.0.short),
    )

pub overflow_add-start : goal.overflow_add-start
overflow_add-start c = omega (arith, c.requires.0.short, c.end_of-to.ensures.within.1)

pub loop-start-smaller : goal.loop-start-smaller
loop-start-smaller c =
    let l = c.loop-start in
    let e = c.end_of-to in
    omega (arith, e.ensures.within.0, next_inside l.invariant e.ensures.value e.ensures.within.1 (search rules))

pub loop-start-preserved : goal.loop-start-preserved
loop-start-preserved c =
    let l = c.loop-start in
    let e = c.end_of-to in
    one_more l.invariant e.ensures.value e.ensures.within.1 (search rules) c.put_line.ensures

pub returns : goal.returns
returns c =
    let l = c.loop-start in
    (all_stored l.invariant (omega arith), omega (arith, l.invariant.within, l.invariant.inside, c.requires.0.short))

pub end_of-to-requires : goal.end_of-to-requires
end_of-to-requires c = omega (arith, c.loop-start.invariant.inside)
