-- `several_at`: the search goes on with the attributes from `i` on. Assumes nothing.
use mathlib.Core.Path.{sym, ◌∙◌}
use native.Mathlib.Nat.{sub-zero}
use native.Mathlib.Omega.{arith}
use borrow.Author.Rules.{rules}
use Rattle.value_pairs.proofs.Finding.{here, not_several, other_name, none_found}
use Rattle.value_pairs.proofs.several_at.Goals as goal

pub loop-i-init : goal.loop-i-init
loop-i-init c = rw sub-zero

pub bounds-a-i : goal.bounds-a-i
bounds-a-i c = let few = c.requires.few in search rules

pub loop-i-preserved-then-not-a-i : goal.loop-i-preserved-then-not-a-i
loop-i-preserved-then-not-a-i c =
    let l = c.loop-i in
    l.invariant ∙ not_several c.args.file.now c.args.a.now c.args.name.now l.i (omega arith) (c.if-not-a-i.true)

pub has_name-requires : goal.has_name-requires
has_name-requires c = (omega (arith, c.requires.few), c.requires.each c.loop-i.i (omega arith))

pub returns-then-has_name : goal.returns-then-has_name
returns-then-has_name c =
    let l = c.loop-i in
    l.invariant ∙ here c.args.file.now c.args.a.now c.args.name.now l.i (omega arith) (c.if-not-a-i.false) (sym c.has_name.ensures ∙ c.if-has_name.true)

pub loop-i-preserved : goal.loop-i-preserved
loop-i-preserved c =
    let l = c.loop-i in
    l.invariant ∙ other_name c.args.file.now c.args.a.now c.args.name.now l.i (omega arith) (c.if-not-a-i.false) (sym c.has_name.ensures ∙ c.if-has_name.false)

pub returns : goal.returns
returns c =
    let l = c.loop-i in
    l.invariant ∙ none_found c.args.file.now c.args.a.now c.args.name.now l.i (omega arith)
