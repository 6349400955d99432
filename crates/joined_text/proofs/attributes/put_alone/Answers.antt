-- `put_alone`: the loop keeps the lines of those before `j` whose names the first file lacks. Assumes nothing.
use mathlib.Core.Path.{sym, ap, ◌∙◌}
use native.Mathlib.Omega.{arith}
use Rattle.meaning.specs.Joining.{declared}
use Rattle.layout.specs.Places.{attributes_of}
use Rattle.printing.proofs.Walks.{begun, stored, passed_over, ended_all}
use Rattle.printing.proofs.Laws.{same_text}
use Rattle.joined_text.proofs.Header.{alone_known, alone_new, alone_lines}
use Rattle.joined_text.proofs.attributes.put_alone.Goals as goal

pub loop-j-init : goal.loop-j-init
loop-j-init c = begun

pub name-requires : goal.name-requires
name-requires c =
    let standing = c.requires.1.standing in
    (omega (arith, standing.few), standing.each c.loop-j.j (omega arith))

pub known_attribute-requires : goal.known_attribute-requires
known_attribute-requires c = c.requires.0.standing

pub loop-j-preserved-then-known_attribute : goal.loop-j-preserved-then-known_attribute
loop-j-preserved-then-known_attribute c =
    let l = c.loop-j in
    let first = attributes_of c.args.first.now.file.now c.args.first.now.attributes in
    let known = sym (c.known_attribute.ensures ∙ ap (declared first) c.name.ensures) ∙ c.if-known_attribute.true in
    passed_over l.invariant (alone_known c.args.second.now.file.now c.args.second.now.attributes first l.j known)

pub put_attribute-requires : goal.put_attribute-requires
put_attribute-requires c =
    let pre = c.requires in
    let l = c.loop-j in
    (omega (arith, pre.1.standing.few), pre.1.standing.each l.j (omega arith), pre.1.short, omega (arith, pre.2, pre.1.standing.few, l.invariant.within))

pub loop-j-preserved : goal.loop-j-preserved
loop-j-preserved c =
    let l = c.loop-j in
    let first = attributes_of c.args.first.now.file.now c.args.first.now.attributes in
    let alone = sym (c.known_attribute.ensures ∙ ap (declared first) c.name.ensures) ∙ c.if-known_attribute.false in
    let put = c.put_attribute.ensures in
    let line = same_text (alone_new c.args.second.now.file.now c.args.second.now.attributes first l.j alone) put.0 in
    stored l.invariant (line, put.1)

pub returns : goal.returns
returns c =
    let l = c.loop-j in
    let first = attributes_of c.args.first.now.file.now c.args.first.now.attributes in
    let lines = ended_all l.invariant c.args.second.now.attributes.len (omega (arith)) in
    (same_text (alone_lines c.args.second.now.file.now c.args.second.now.attributes first) lines, omega (arith, l.invariant.within, c.requires.1.standing.few))
