-- `put_kind` meets its contract: it stores its kind's letter.
use Rattle.treelines.proofs.Words.{kind_put}
use Rattle.treelines.proofs.fields.put_kind.Goals as goal

pub returns : goal.returns
returns c = kind_put c.args.kind c.letter.ensures c.put_field.ensures
