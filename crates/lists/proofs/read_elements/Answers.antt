-- `read_elements` meets its contract: the file's refusal, a list too short, or the elements.
use Rattle.std.specs.Prelude.{Err}
use mathlib.Core.Path.{◌≡◌}
use borrow.Author.Rules.{rules}
use Rattle.reader.proofs.FileRead.{file_refused, file_read}
use Rattle.lists.proofs.Reading.{refusal_listed, short_listed, filled, whole_listed}
use Rattle.lists.proofs.read_elements.Goals as goal

pub returns-in_err-n : goal.returns-in_err-n
returns-in_err-n c =
    let same : c.from_residual.result ≡ Err c.in_err-n.field-0.0 = search rules in
    rw same (refusal_listed _ _ _ (file_refused c.in_err-n.ensures))

pub returns-then-room-n : goal.returns-then-room-n
returns-then-room-n c =
    let (p, h, holds) = file_read c.in_ok-n.ensures in
    short_listed _ _ _ _ p h holds _ c.if-room-n.true

pub all_elements-requires : goal.all_elements-requires
all_elements-requires c =
    let (p, h, holds) = file_read c.in_ok-n.ensures in
    filled _ _ _ _ p h holds

pub returns : goal.returns
returns c =
    let (p, h, holds) = file_read c.in_ok-n.ensures in
    whole_listed _ _ _ _ p h holds _ c.if-room-n.false _ c.all_elements.ensures.0 c.all_elements.ensures.1
