-- `Marks::put`: the obligations of the elements so far.
use Rattle.printing.proofs.Walks.{Sofar}
use Rattle.obligations.specs.Given.{own_text, effect, marks_in}
use Rattle.obligations.proofs.Marks.put.Given as goal

abbrev pub invariant-loop-i : goal.invariant-loop-i
invariant-loop-i l =
    let m = l.self in
    Sofar (own_text (effect l.permit) (marks_in m.words.now l.v) m.file.now m.places.now) 34 0 l.initial.sink l.i l.sink
