-- `answer`: the text is counted, and then laid over the buffer if the answer says that it fits. Assumes nothing.
use borrow.Author.Rules.{rules}
use Rattle.printing.proofs.Laws.{filled}
use Rattle.printing.proofs.Fitting.{filling, untouched, fits, too_long}
use Rattle.printing.proofs.answer.Goals as goal

pub returns-then-answer-eq0 : goal.returns-then-answer-eq0
returns-then-answer-eq0 g c =
    let out = c.args.out.now in
    let count = c.put.ensures.puts.wrote in
    let told = c.text_answer-answer.ensures in
    filling count out told (fits count out told c.if-answer-eq0.true) (filled c.put-then-answer-eq0.ensures.puts (search rules))

pub returns-else-answer-eq0 : goal.returns-else-answer-eq0
returns-else-answer-eq0 g c =
    let out = c.args.out.now in
    let count = c.put.ensures.puts.wrote in
    let told = c.text_answer-answer.ensures in
    untouched count out told (too_long count out told c.if-answer-eq0.false)
