-- `all_elements` meets its contract: before turn i, the first i elements are listed.
use native.Mathlib.Omega.{arith}
use Rattle.lists.proofs.Reading.{none_yet, one_listed}
use Rattle.lists.proofs.all_elements.Goals as goal

pub loop-i-init : goal.loop-i-init
loop-i-init c = none_yet c.args.file.now c.args.table.now c.args.places.now _ c.none-all.ensures

pub element_at-requires : goal.element_at-requires
element_at-requires c =
    let filled = c.requires in
    let i = c.loop-i.i in
    (filled.naming.each i c.loop-i-test.true, filled.obliged i c.loop-i-test.true, omega (arith, filled.rows, c.loop-i-test.true), filled.shallow i c.loop-i-test.true)

pub push-requires : goal.push-requires
push-requires c = omega (arith, c.requires.naming.few)

pub loop-i-preserved : goal.loop-i-preserved
loop-i-preserved c =
    one_listed c.args.file.now c.args.table.now c.args.places.now c.loop-i.all c.loop-i.i c.loop-i.invariant (omega (arith, c.requires.naming.few)) _ c.element_at.ensures _ c.push.ensures
