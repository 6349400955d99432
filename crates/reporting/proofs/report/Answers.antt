-- `report`: what is laid down of a policy that is held is what finding asks for. Assumes nothing.
use borrow.Author.Rules.{rules}
use Rattle.reporting.proofs.Finding.{laid}
use Rattle.reporting.proofs.report.Goals as goal

pub find-requires : goal.find-requires
find-requires c = (laid _ _ _ _ _ _ c.requires c.find_decisions.ensures.0 c.find_decisions.ensures.1, search rules)
