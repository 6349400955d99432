-- `put_decimal` calls itself on the number's tenth, which is less.
use Rattle.printing.proofs.Digits.{one_digit, digit_more}
use Rattle.printing.proofs.Sink.+put_decimal.Goals as goal
use Rattle.printing.proofs.Sink.+put_decimal.Goals.{then-number-ge10, else-number-ge10}

pub returns : goal.returns
returns t c =
    elim c.if-number-ge10.branch [
      | then-number-ge10 w ↦ digit_more c.args.number w.if-number-ge10.true w.put_decimal.ensures (rw w.self-is at c.put.ensures)
      | else-number-ge10 w ↦ one_digit c.args.number w.if-number-ge10.false (rw w.self-is at c.put.ensures)
    ]
