-- `attribute_named` meets its contract: the search goes on with the attributes from `i` on.
use Rattle.layout.proofs.Names.{Searched}
use Rattle.layout.proofs.attribute_named.Given as goal

abbrev pub invariant-loop-i : goal.invariant-loop-i
invariant-loop-i l = Searched l.file l.a l.name l.i
