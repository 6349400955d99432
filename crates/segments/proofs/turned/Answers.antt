-- `turned`: the six digits, one after the other. Assumes nothing.
use mathlib.Core.Path.{refl}
use native.Mathlib.Omega.{arith}
use Rattle.segments.proofs.Turning.{masks, turned_all}
use Rattle.segments.proofs.turned.Goals as goal

pub exchanged-first-requires : goal.exchanged-first-requires
exchanged-first-requires c = (omega arith, refl, masks.m0)

pub exchanged-second-requires : goal.exchanged-second-requires
exchanged-second-requires c = (omega arith, refl, masks.m1)

pub exchanged-third-requires : goal.exchanged-third-requires
exchanged-third-requires c = (omega arith, refl, masks.m2)

pub exchanged-fourth-requires : goal.exchanged-fourth-requires
exchanged-fourth-requires c = (omega arith, refl, masks.m3)

pub exchanged-fifth-requires : goal.exchanged-fifth-requires
exchanged-fifth-requires c = (omega arith, refl, masks.m4)

pub exchanged-requires : goal.exchanged-requires
exchanged-requires c = (omega arith, refl, masks.m5)

pub returns : goal.returns
returns c =
    turned_all c.args.words.now c.exchanged-first.result c.exchanged-second.result c.exchanged-third.result c.exchanged-fourth.result c.exchanged-fifth.result c.exchanged.result
    c.exchanged-first.ensures c.exchanged-second.ensures c.exchanged-third.ensures c.exchanged-fourth.ensures c.exchanged-fifth.ensures c.exchanged.ensures
