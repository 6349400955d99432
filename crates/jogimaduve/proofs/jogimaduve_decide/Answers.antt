-- `jogimaduve_decide` meets its contract: the file's refusal, the request line's, or the decision and its obligations.
use mathlib.Core.Path.{refl}
use Rattle.reader.proofs.FileRead.{file_refused, file_read, sizable}
use Rattle.trimmed_text.proofs.ByPlace.{top_depth}
use Rattle.jogimaduve.proofs.Deciding.{refusal_answered, request_refused, asking, request_decided}
use Rattle.jogimaduve.proofs.jogimaduve_decide.Goals as goal

pub returns-in-Err : goal.returns-in-Err
returns-in-Err c =
    let a = c.args in
    let both = refusal_answered _ (file_refused c.in-Err.ensures) a.request.now a.out.now in
    record { value = rw c.undecided.ensures both.0; out_after = both.1 }

pub request_line-requires : goal.request_line-requires
request_line-requires c =
    let spaced = (file_read c.in-Ok.ensures).2.spaced in
    (spaced.standing, spaced.few_values)

pub returns-in-Err-request_line : goal.returns-in-Err-request_line
returns-in-Err-request_line c =
    let a = c.args in
    let (p, h, holds) = file_read c.in-Ok.ensures in
    let both = request_refused _ _ _ _ p h holds a.request.now a.out.now _ c.in-Err-request_line.ensures in
    record { value = rw c.undecided-in-Err-request_line.ensures both.0; out_after = both.1 }

pub held-requires : goal.held-requires
held-requires c = sizable c.in-Ok.ensures

pub answer-requires : goal.answer-requires
answer-requires c =
    let a = c.args in
    let (p, h, holds) = file_read c.in-Ok.ensures in
    rw c.held.ensures (asking _ _ _ _ p h holds a.request.now a.out.now _ c.in-Ok-request_line.ensures refl)

pub returns-in-Ok-request_line : goal.returns-in-Ok-request_line
returns-in-Ok-request_line c =
    let a = c.args in
    let (p, h, holds) = file_read c.in-Ok.ensures in
    let both = request_decided _ _ _ _ p h holds a.request.now a.out.now _ c.in-Ok-request_line.ensures refl (top_depth _ p h _ _ _ holds.elements) _ _ (rw c.held.ensures at c.answer.ensures) in
    record { value = both.0; out_after = both.1 }
