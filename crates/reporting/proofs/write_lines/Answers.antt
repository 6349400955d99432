-- `write_lines`: the lines of what was found, as an answer. Assumes nothing.
use Rattle.reporting.proofs.Finding.{laid, struck_named, struck_counted}
use Rattle.reporting.proofs.ReportText.{reported}
use Rattle.reporting.proofs.write_lines.Goals as goal

pub find-requires : goal.find-requires
find-requires c = let pre = c.requires in (laid _ _ _ _ _ _ pre.0 pre.1 pre.3, pre.2)

pub find-requires-2 : goal.find-requires-2
find-requires-2 c = let pre = c.requires in laid _ _ _ _ _ _ pre.0 pre.1 pre.3

pub invariant_of-lines-clause-naming : goal.invariant_of-lines-clause-naming
invariant_of-lines-clause-naming c = c.requires.0.naming

pub invariant_of-lines-clause-small : goal.invariant_of-lines-clause-small
invariant_of-lines-clause-small c = c.requires.0.ready.small

pub invariant_of-lines-clause-counted : goal.invariant_of-lines-clause-counted
invariant_of-lines-clause-counted c = struck_counted _ _ _ _ _ _ _ _ _ c.find-2.ensures

pub invariant_of-lines-clause-ordered : goal.invariant_of-lines-clause-ordered
invariant_of-lines-clause-ordered c = struck_named _ _ _ _ _ _ _ _ _ c.requires.0.naming c.find-2.ensures

pub returns : goal.returns
returns c =
    let both = reported _ _ _ _ c.requires.0 _ _ _ _ _ _ _ _ c.find.ensures c.requires.4 c.find-2.ensures c.answer.ensures in
    record { value = both.0; out_after = both.1 }
