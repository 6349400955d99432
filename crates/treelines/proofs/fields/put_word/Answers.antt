-- `put_word` meets its contract: it stores its word.
use Rattle.treelines.proofs.Words.{word_put}
use Rattle.treelines.proofs.fields.put_word.Goals as goal

pub returns : goal.returns
returns c = word_put c.args.word c.spelling.ensures c.put_bytes.ensures
