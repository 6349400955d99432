-- `put_set`: the fields before the word, the word, the targets and the newline. Assumes nothing.
use native.Mathlib.Omega.{arith}
use lib.ListN.{replicate}
use Rattle.meaning.specs.Text.{bytes}
use Rattle.printing.proofs.Laws.{then, same_text}
use Rattle.joined_text.proofs.Header.{set_line}
use Rattle.joined_text.proofs.attributes.put_set.Goals as goal

pub returns : goal.returns
returns c =
    let front = c.put_bytes.ensures in
    let word = c.put_bytes-2.ensures in
    let targets = c.put_stars.ensures in
    let end = c.put.ensures in
    (same_text (set_line c.args.word.now (replicate c.args.n (bytes "*"))) (then front (then word (then targets.0 end))), omega (arith, c.requires, front.wrote.moved, word.wrote.moved, targets.1, end.wrote.moved))
