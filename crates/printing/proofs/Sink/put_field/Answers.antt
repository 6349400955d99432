use Rattle.printing.proofs.Laws.{then}
use Rattle.printing.proofs.Sink.put_field.Goals as goal

pub returns : goal.returns
returns c = then c.put_bytes.ensures c.put.ensures
