use Rattle.reporting.proofs.Finding.{rules_found}
use Rattle.reporting.proofs.Rules.find.Goals as goal

pub returns : goal.returns
returns c = rules_found _ _ _ _ _ _ _ _ _ _ _ c.trim_flags-self.ensures c.needed_all.ensures.0
