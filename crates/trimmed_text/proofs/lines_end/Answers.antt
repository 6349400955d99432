-- `lines_end` meets its contract.
use mathlib.Core.Path.{sym}
use Rattle.trimmed_text.proofs.Copying.{reached_line, reached_end}
use Rattle.trimmed_text.proofs.lines_end.Goals as goal

pub returns-then-i-n : goal.returns-then-i-n
returns-then-i-n c = let a = c.args in sym (reached_line a.file.now a.places.now a.n _ c.if-i-n.true)

pub returns : goal.returns
returns c = let a = c.args in sym (reached_end a.file.now a.places.now a.n _ c.if-i-n.false)
