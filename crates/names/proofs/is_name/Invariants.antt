-- `names::is_name` meets its contract. The loop keeps the answer: a text that its length and first byte allow is a name if the bytes behind are those of names.
use mathlib.Core.Path.{◌≡◌}
use lib.ListN.{drop}
use Rattle.meaning.specs.Text.{all, name_byte, is_name}
use Rattle.names.proofs.is_name.Given as goal

abbrev pub invariant-loop-b : goal.invariant-loop-b
invariant-loop-b l = is_name l.s ≡ all name_byte (drop l.b-index l.s)
