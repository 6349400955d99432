-- `answer` meets its contract: no obligations come, or those that are given.
use mathlib.Core.Path.{refl, sym, ◌∙◌}
use Rattle.deciding.proofs.Telling.{undecided, unobliged, places_room}
use Rattle.deciding.proofs.answer.Goals as goal

pub decide-decision-requires : goal.decide-decision-requires
decide-decision-requires c = let ready = c.requires in (record { rows = ready.rows; flags = ready.few; place = ready.some }, ready.values, refl)

pub any_obligations-requires : goal.any_obligations-requires
any_obligations-requires c = places_room c.requires

pub returns-in-NotApplicable : goal.returns-in-NotApplicable
returns-in-NotApplicable c = let a = c.args in rw c.with_decision.ensures (undecided a.policy.file.now a.policy.table.now a.policy.places.now a.policy.shape.n a.q a.out.now _ c.decide-decision.ensures c.in-NotApplicable.is)

pub returns-then-not-any_obligations : goal.returns-then-not-any_obligations
returns-then-not-any_obligations c = let a = c.args in rw c.with_decision-then-not-any_obligations.ensures (unobliged a.policy.file.now a.policy.table.now a.policy.places.now a.policy.shape.n a.q a.out.now _ c.decide-decision.ensures (sym c.any_obligations.ensures ∙ c.if-not-any_obligations.true))
