-- `put_obligation` meets its contract: the law of an obligation's line.
use Rattle.meaning.specs.Model.{obligation_name, word_text}
use Rattle.treelines.proofs.ObligationLines.{obligation_line_lem}
use Rattle.treelines.proofs.obligations.put_obligation.Goals as goal

pub returns : goal.returns
returns c =
    let o = c.args.o in
    obligation_line_lem (obligation_name o) (word_text o.word) c.put_field.ensures c.put_name.ensures c.put_word.ensures c.put.ensures
