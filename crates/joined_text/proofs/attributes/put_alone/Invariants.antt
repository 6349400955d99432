-- `put_alone`: the loop keeps the lines of those before `j` whose names the first file lacks. Assumes nothing.
use Rattle.layout.specs.Places.{attributes_of}
use Rattle.printing.proofs.Walks.{Sofar}
use Rattle.joined_text.proofs.Header.{alone_at}
use Rattle.joined_text.proofs.attributes.put_alone.Given as goal

abbrev pub invariant-loop-j : goal.invariant-loop-j
invariant-loop-j l = Sofar (alone_at l.second.file.now l.second.attributes (attributes_of l.first.file.now l.first.attributes)) 16388 0 l.initial.sink l.j l.sink
