-- `differ_any`: the loop keeps the answer, that of the attributes from `i` on. Assumes nothing.
use mathlib.Core.Path.{sym, ap, ◌∙◌}
use native.Mathlib.Nat.{sub-zero}
use native.Mathlib.Omega.{arith}
use Rattle.meaning.specs.Text.{any}
use Rattle.meaning.specs.Joining.{differs}
use Rattle.layout.specs.Places.{attribute_at}
use Rattle.layout.proofs.Names.{attributes_end, attributes_next}
use Rattle.joined_attributes.proofs.differ_any.Goals as goal

pub loop-i-init : goal.loop-i-init
loop-i-init c = rw sub-zero

pub differ-requires : goal.differ-requires
differ-requires c =
    (omega (arith, c.requires.0.few), c.requires.0.each c.loop-i.i (omega arith), c.requires.1, c.requires.2)

pub returns-then-differ : goal.returns-then-differ
returns-then-differ c =
    let l = c.loop-i in
    let hit = sym c.differ.ensures ∙ c.if-differ.true in
    sym (l.invariant ∙ ap (any (differs (attribute_at c.args.second.now.file.now c.args.second.now.attributes c.args.j))) (attributes_next c.args.first.now.file.now c.args.first.now.attributes l.i (omega arith)) ∙ rw hit)

pub loop-i-preserved : goal.loop-i-preserved
loop-i-preserved c =
    let l = c.loop-i in
    let miss = sym c.differ.ensures ∙ c.if-differ.false in
    l.invariant ∙ ap (any (differs (attribute_at c.args.second.now.file.now c.args.second.now.attributes c.args.j))) (attributes_next c.args.first.now.file.now c.args.first.now.attributes l.i (omega arith)) ∙ rw miss

pub returns : goal.returns
returns c =
    let l = c.loop-i in
    sym (l.invariant ∙ ap (any (differs (attribute_at c.args.second.now.file.now c.args.second.now.attributes c.args.j))) (attributes_end c.args.first.now.file.now c.args.first.now.attributes l.i (omega arith)))
