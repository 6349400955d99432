use native.Mathlib.Omega.{arith}
use mathlib.Core.Path.{ap, ◌∙◌}
use lib.ListN.{length}
use lib.Seq.{take-length}
use Rattle.meaning.specs.Text.{gathered}
use Rattle.printing.proofs.Laws.{same_text}
use Rattle.printing.proofs.Walks.{begun, stored, ended_all, taken}
use Rattle.report_lines.specs.Lines.{struck_line, struck_text}
use Rattle.report_lines.proofs.put_struck.Goals as goal

pub loop-i-init : goal.loop-i-init
loop-i-init c = begun

pub put_struck_rule-requires : goal.put_struck_rule-requires
put_struck_rule-requires c =
    let pre = c.requires in
    let l = c.loop-i in
    (pre.0.each l.i-index (omega arith), omega (arith, pre.0.few, l.invariant.within))

pub loop-i-preserved : goal.loop-i-preserved
loop-i-preserved c =
    let l = c.loop-i in
    stored l.invariant c.put_struck_rule.ensures

pub returns : goal.returns
unfolding struck_text
returns c =
    let a = c.args in
    let l = c.loop-i in
    let own = struck_line a.policy.now.file.now a.policy.now.places.now in
    let order = a.order.now in
    let all = ended_all l.invariant (length order) (omega arith) in
    (same_text (taken 0 own order (length order) (omega arith) ∙ ap (gathered own) (take-length order)) all, omega (arith, l.invariant, c.requires.0.few))
