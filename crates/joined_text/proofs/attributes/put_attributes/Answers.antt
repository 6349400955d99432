-- `put_attributes`: the loop keeps the lines of the attributes before `i`. Assumes nothing.
use native.Mathlib.Omega.{arith}
use Rattle.printing.proofs.Walks.{begun, stored, ended_all}
use Rattle.printing.proofs.Laws.{same_text}
use Rattle.joined_text.proofs.Header.{all_lines}
use Rattle.joined_text.proofs.attributes.put_attributes.Goals as goal

pub loop-i-init : goal.loop-i-init
loop-i-init c = begun

pub put_attribute-requires : goal.put_attribute-requires
put_attribute-requires c =
    let pre = c.requires in
    let l = c.loop-i in
    (omega (arith, pre.0.standing.few), pre.0.standing.each l.i (omega arith), pre.0.short, omega (arith, pre.1, pre.0.standing.few, l.invariant.within))

pub loop-i-preserved : goal.loop-i-preserved
loop-i-preserved c =
    let l = c.loop-i in
    stored l.invariant c.put_attribute.ensures

pub returns : goal.returns
returns c =
    let l = c.loop-i in
    let lines = ended_all l.invariant c.args.part.now.attributes.len (omega (arith)) in
    (same_text (all_lines c.args.part.now.file.now c.args.part.now.attributes) lines, omega (arith, l.invariant.within, c.requires.0.standing.few))
