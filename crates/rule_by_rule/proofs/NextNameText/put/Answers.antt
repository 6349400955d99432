-- `put` of the next rule's name: a name, or nothing. Assumes nothing.
use Rattle.rule_by_rule.proofs.NextNameText.put.Goals as goal

pub element_name-requires : goal.element_name-requires
element_name-requires c = c.args.self.now.named _ c.in-Some.is
