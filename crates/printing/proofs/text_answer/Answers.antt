-- `text_answer`: the text fits, or it does not. Assumes nothing.
use borrow.Author.Tests.{lt-ltb, le-ltb}
use Rattle.printing.proofs.text_answer.Goals as goal

pub returns-then-needed-room : goal.returns-then-needed-room
returns-then-needed-room c = rw (le-ltb _ _ c.if-needed-room.true)

pub returns : goal.returns
returns c = rw (lt-ltb _ _ c.if-needed-room.false) c.from.ensures
