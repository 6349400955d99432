-- `Lines::put`: the four kinds of lines, one behind the other. Assumes nothing.
use Rattle.printing.proofs.Laws.{then}
use Rattle.reporting.proofs.LinesText.put.Goals as goal

pub returns-clause-puts : goal.returns-clause-puts
returns-clause-puts c = then c.put_segments.ensures.0 (then c.put_conflicts.ensures.0 (then c.put_struck.ensures.0 c.put_kept.ensures.0))
