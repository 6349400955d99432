-- `put_decimal` calls itself on the number's tenth, which is less.
use Rattle.printing.proofs.Sink.+put_decimal.Given as goal

abbrev pub decreases-put_decimal : goal.decreases-put_decimal
decreases-put_decimal l = l.number
