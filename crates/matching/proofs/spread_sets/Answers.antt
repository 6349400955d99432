-- `spread_sets`: the sets of the values looked at are right, and the plane stands once for each of them and once more. Assumes nothing.
use native.Mathlib.Omega.{arith}
use borrow.Author.Rules.{rules}
use Rattle.matching.proofs.Doubling.{doubles_none, copies_some, copies_small, with_value_fits, next_sets, sets_all, copies_fit, doubles_next}
use Rattle.matching.proofs.spread_sets.Goals as goal

pub loop-copies-init : goal.loop-copies-init
loop-copies-init c =
    let a = c.args in
    (search rules, c.requires.4, (0, doubles_none a.plane.now a.size a.mask a.count c.requires.0 c.requires.3 c.requires.1))

pub overflow_mul-width : goal.overflow_mul-width
overflow_mul-width c =
    let so_far = c.loop-copies.invariant.2.1 in
    omega (arith, (with_value_fits _ _ _ _ c.requires.0 c.requires.2 c.requires.5 _ _ _ _ _ so_far).0, (with_value_fits _ _ _ _ c.requires.0 c.requires.2 c.requires.5 _ _ _ _ _ so_far).1)

pub with_value-sets-requires : goal.with_value-sets-requires
with_value-sets-requires c =
    let turn = c.loop-copies in
    let fits = with_value_fits _ _ _ _ c.requires.0 c.requires.2 c.requires.5 _ _ _ _ _ turn.invariant.2.1 in
    (fits.0, fits.1, fits.2, fits.3, turn.invariant.0)

pub overflow_mul-copies : goal.overflow_mul-copies
overflow_mul-copies c =
    let so_far = c.loop-copies.invariant.2.1 in
    omega (arith, copies_small _ _ _ _ c.requires.0 c.requires.2 c.requires.5 _ _ _ _ _ so_far)

pub returns-then-count-copies : goal.returns-then-count-copies
returns-then-count-copies c =
    let so_far = c.loop-copies.invariant.2.1 in
    let fit = c.requires in
    sets_all _ _ _ _ fit.0 fit.2 fit.5 _ _ _ _ _ so_far _ c.if-count-copies.true (next_sets _ _ _ _ fit.0 fit.2 fit.5 _ _ _ _ _ so_far _ c.with_value-sets.ensures)

pub again-all-requires : goal.again-all-requires
again-all-requires c =
    let turn = c.loop-copies in
    let fit = c.requires in
    let room = copies_fit _ _ _ _ fit.0 fit.2 fit.5 _ _ _ _ _ turn.invariant.2.1 (omega arith) in
    (room.0, room.1, turn.invariant.1)

pub loop-copies-smaller : goal.loop-copies-smaller
loop-copies-smaller c =
    let so_far = c.loop-copies.invariant.2.1 in
    omega (arith, copies_some _ _ _ _ c.requires.0 c.requires.2 c.requires.5 _ _ _ _ _ so_far)

pub loop-copies-preserved : goal.loop-copies-preserved
loop-copies-preserved c =
    let turn = c.loop-copies in
    let so_far = turn.invariant.2.1 in
    let fit = c.requires in
    let more = c.with_value-sets in
    let sets = next_sets _ _ _ _ fit.0 fit.2 fit.5 _ _ _ _ _ so_far _ more.ensures in
    (search rules, search rules, (_, doubles_next _ _ _ _ fit.0 fit.2 fit.5 _ _ _ _ _ so_far _ _ (omega arith) sets c.again-all.ensures))
