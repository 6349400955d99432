-- `put_file` meets its contract. The loop keeps the lines of the elements before the one at hand, behind the attribute lines.
use native.Mathlib.Omega.{arith}
use lib.ListN.{length}
use Rattle.printing.proofs.Walks.{begun, stored, ended_all}
use Rattle.treelines.proofs.ElementLines.{small_at, file_text}
use Rattle.treelines.proofs.put_file.Goals as goal

pub loop-e-init : goal.loop-e-init
loop-e-init c = begun

pub put_lines-requires : goal.put_lines-requires
put_lines-requires c =
    let (pre, low) = c.requires in
    let l = c.loop-e in
    (small_at c.args.list.now l.e-index pre (omega arith), omega (arith, pre.few, c.args.lines.now.headed.short, l.invariant.within, c.put_bytes.ensures.wrote.moved, low))

pub loop-e-preserved : goal.loop-e-preserved
loop-e-preserved c = let l = c.loop-e in stored l.invariant c.put_lines.ensures

pub returns : goal.returns
returns c =
    let args = c.args in
    let l = c.loop-e in
    let pre = c.requires.0 in
    let head = c.put_bytes.ensures in
    let lines = ended_all l.invariant (length args.list.now) (omega arith) in
    (file_text args.lines.now.text.now args.lines.now.attributes args.list.now head lines, omega (arith, head.wrote.moved, pre.few, c.args.lines.now.headed.short, l.invariant.within))
