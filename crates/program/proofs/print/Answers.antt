-- `print`: the report, or the line of the refusal. How long the buffer is, stands in its type. Assumes nothing.
use mathlib.Core.Path.{refl}
use native.Mathlib.Omega.{arith}
use Rattle.program.proofs.Printed.{report_printed, error_printed}
use borrow.Author.Rules.{rules}
use Rattle.program.proofs.print.Goals as goal

pub returns-then-number-eq0 : goal.returns-then-number-eq0
returns-then-number-eq0 c =
    let answer = c.jogimaduve_report-answer in
    report_printed _ c.args.out.now (search rules) _ answer.result answer.ensures.value answer.ensures.out_after c.if-number-eq0.true

pub returns : goal.returns
returns c =
    let answer = c.jogimaduve_report-answer in
    error_printed _ c.args.out.now (search rules) _ answer.result answer.ensures.value answer.ensures.out_after
    refl
    refl
    (search rules)
    c.put_field.ensures
    c.put_number.ensures.0
    c.put_number-2.ensures.0
    c.if-number-eq0.false
    (omega arith)
    (omega arith)
