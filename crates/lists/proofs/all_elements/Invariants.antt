-- `all_elements` meets its contract: before turn i, the first i elements are listed.
use Rattle.lists.proofs.Reading.{Upto}
use Rattle.lists.proofs.all_elements.Given as goal

abbrev pub invariant-loop-i : goal.invariant-loop-i
invariant-loop-i l = Upto l.file l.table l.places l.all l.i
