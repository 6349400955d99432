use mathlib.Core.Path.{refl, sym, ap, ◌∙◌}
use native.Mathlib.Omega.{arith}
use Rattle.printing.proofs.Laws.{then}
use Rattle.report_lines.proofs.Names.{from_start, unset, first_name, no_name}
use Rattle.report_lines.proofs.fields.put_names.Goals as goal

pub loop-i-init : goal.loop-i-init
loop-i-init c = (from_start _ _ _ _, refl)

pub put_name-requires : goal.put_name-requires
put_name-requires c = let here = ap (λ s. s.at) c.loop-i.invariant.1 in (c.requires.0.each c.loop-i.i (omega arith), omega (arith, here))

pub put_later_names-requires : goal.put_later_names-requires
put_later_names-requires c = let here = ap (λ s. s.at) c.loop-i.invariant.1 in (c.requires.0, omega arith, omega (arith, here))

pub returns-then-has : goal.returns-then-has
returns-then-has c =
    let l = c.loop-i in
    let set = sym c.has.ensures ∙ c.if-has.true in
    let (w, a) = rw l.invariant.1 at c.put_name.ensures in
    let (v, e) = c.put_later_names.ensures in
    let u = c.put.ensures in
    let names = first_name _ _ _ _ l.i (omega arith) l.invariant.0 set in
    (rw names (then (then w v) u), omega (arith, a, e, u.wrote.moved, c.requires.0.few))

pub loop-i-preserved : goal.loop-i-preserved
loop-i-preserved c =
    let l = c.loop-i in
    let none = sym c.has.ensures ∙ c.if-has.false in
    (unset _ _ _ _ l.i (omega arith) l.invariant.0 none, l.invariant.1)

pub returns : goal.returns
returns c =
    let l = c.loop-i in
    let w = rw l.invariant.1 at c.put_field.ensures in
    let names = no_name _ _ _ _ l.i (omega arith) l.invariant.0 in
    (rw names w, omega (arith, w.wrote.moved))
