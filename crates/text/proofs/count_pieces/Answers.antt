-- `text::count_pieces` meets its contract. The loop keeps one more than the bytes `sep` that it passed.
use mathlib.Core.Path.{◌≡◌, sym, ◌∙◌}
use native.Mathlib.Omega.{arith}
use lib.ListN.{take}
use lib.Seq.{take_all}
use Rattle.text.proofs.Counting.{cut_count}
use Rattle.text.proofs.count_pieces.Goals as goal

pub returns : goal.returns
returns c =
    let s = c.args.s.now in
    let whole : take c.loop-b.b-index s ≡ s = take_all c.loop-b.b-index s (omega arith) in
    rw whole at c.loop-b.invariant ∙ sym (cut_count c.args.sep s)
