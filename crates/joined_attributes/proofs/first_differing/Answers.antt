-- `first_differing`: the loop keeps the answer, that of the second file's attributes from `j` on. Assumes nothing.
use Prim.Native.Nat.{◌+◌, ◌-◌}
use mathlib.Core.Path.{sym, ap, ◌∙◌}
use native.Mathlib.Nat.{sub-zero}
use native.Mathlib.Numerals.{add-one}
use native.Mathlib.Omega.{arith}
use borrow.Author.Rules.{rules}
use Rattle.meaning.specs.Joining.{first_differing}
use Rattle.laws.specs.Found.{found}
use Rattle.layout.specs.Places.{attribute_at, attributes_from, attributes_of}
use Rattle.layout.proofs.Names.{attributes_end, attributes_next}
use Rattle.joined_attributes.proofs.Differing.{differing, passed_over}
use Rattle.joined_attributes.proofs.first_differing.Goals as goal

pub loop-j-init : goal.loop-j-init
loop-j-init c = rw sub-zero

pub differ_any-requires : goal.differ_any-requires
differ_any-requires c =
    (c.requires.0, omega (arith, c.requires.1.few), c.requires.1.each c.loop-j.j (omega arith))

pub returns-then-differ_any : goal.returns-then-differ_any
returns-then-differ_any c =
    let l = c.loop-j in
    let own = attributes_of c.args.first.now.file.now c.args.first.now.attributes in
    let next = attributes_next c.args.second.now.file.now c.args.second.now.attributes l.j (omega arith) in record {
      value = ap found (sym (differing own (l.j + 1) (attribute_at c.args.second.now.file.now c.args.second.now.attributes l.j) (attributes_from c.args.second.now.file.now c.args.second.now.attributes (l.j + 1) (c.args.second.now.attributes.len - (l.j + 1))) (sym c.differ_any.ensures ∙ c.if-differ_any.true))
          ∙ sym (l.invariant ∙ ap (first_differing own (l.j + 1)) next));
      within = omega (arith, c.requires.1.few);
    }

pub loop-j-preserved : goal.loop-j-preserved
loop-j-preserved c =
    let l = c.loop-j in
    let own = attributes_of c.args.first.now.file.now c.args.first.now.attributes in
    let next = attributes_next c.args.second.now.file.now c.args.second.now.attributes l.j (omega arith) in
    let rest = attributes_from c.args.second.now.file.now c.args.second.now.attributes (l.j + 1) (c.args.second.now.attributes.len - (l.j + 1)) in
    l.invariant ∙ ap (first_differing own (l.j + 1)) next
    ∙ passed_over own (l.j + 1) (attribute_at c.args.second.now.file.now c.args.second.now.attributes l.j) rest (sym c.differ_any.ensures ∙ c.if-differ_any.false)
    ∙ ap (λ n. first_differing own n rest) (sym (add-one (l.j + 1)))

pub returns : goal.returns
returns c =
    let l = c.loop-j in
    let own = attributes_of c.args.first.now.file.now c.args.first.now.attributes in
    record { value = sym (ap found (l.invariant ∙ ap (first_differing own (l.j + 1)) (attributes_end c.args.second.now.file.now c.args.second.now.attributes l.j (omega arith)))); within = search rules }
