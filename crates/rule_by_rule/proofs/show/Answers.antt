-- `show`: the name of the rule that is found, counted and then written. Assumes nothing.
use Rattle.trimmed_text.proofs.Held.{steady_held}
use Rattle.rule_by_rule.proofs.Shown.{named_found, show_fitted}
use Rattle.rule_by_rule.proofs.show.Goals as goal

pub next_struck-next-requires : goal.next_struck-next-requires
next_struck-next-requires c = let held = c.requires in (steady_held _ _ _ _ held, held.ready)

pub invariant_of-answer : goal.invariant_of-answer
invariant_of-answer c = record { named = λ i is. named_found _ _ _ _ c.requires c.next_struck-next.ensures.0 i cc }

pub returns : goal.returns
returns c =
    let both = show_fitted _ _ _ _ c.requires _ c.next_struck-next.ensures.0 c.answer.ensures in
    record { value = both.0; out_after = both.1 }
