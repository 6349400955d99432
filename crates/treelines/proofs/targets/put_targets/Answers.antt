-- `put_targets` meets its contract. The loop keeps the targets of the attributes before `i`, each with its tab.
use mathlib.Core.Path.{◌≡◌, sym, ap, ◌∙◌}
use native.Mathlib.Omega.{arith}
use borrow.Author.Rules.{rules}
use lib.ListN.{length}
use Rattle.meaning.specs.Text.{cut, tab}
use Rattle.layout.specs.Places.{Standing}
use Rattle.printing.proofs.Walks.{begun, stored, ended_all}
use Rattle.treelines.proofs.TargetTexts.{values_short, tab_put, all_targets}
use Rattle.treelines.proofs.targets.put_targets.Goals as goal

pub loop-i-init : goal.loop-i-init
loop-i-init c = begun

pub put-requires : goal.put-requires
put-requires c = omega (arith, c.loop-i.invariant.within, c.args.lines.now.headed.standing.few)

pub values-requires : goal.values-requires
values-requires c = (omega (arith, c.args.lines.now.headed.standing.few), c.args.lines.now.headed.standing.each c.loop-i.i (omega arith))

pub put_target-requires : goal.put_target-requires
put_target-requires c =
    let pre = c.args.lines.now.headed in
    let l = c.loop-i in
    let here : Standing c.args.lines.now.text.now c.args.lines.now.attributes l.i = pre.standing.each l.i (omega arith) in
    (here.count ∙ ap (λ vs. length (cut tab vs)) (sym c.values.ensures), pre.few_values l.i (omega arith), omega (arith, ap length c.values.ensures, values_short here pre.short), omega (arith, l.invariant.within, pre.standing.few, c.put.ensures.wrote.moved))

pub loop-i-preserved : goal.loop-i-preserved
loop-i-preserved c =
    let args = c.args in
    let l = c.loop-i in
    stored l.invariant (tab_put args.lines.now.text.now args.lines.now.attributes args.e.masks l.i c.values.ensures c.put.ensures c.put_target.ensures)

pub returns : goal.returns
returns c =
    let args = c.args in
    let l = c.loop-i in
    let few = c.args.lines.now.headed.standing.few in
    let six : length args.e.masks ≡ 6 = search rules in
    (all_targets args.lines.now.text.now args.lines.now.attributes args.e.masks (omega arith) (ended_all l.invariant args.lines.now.attributes.len (omega arith)), omega (arith, l.invariant.within, few))
