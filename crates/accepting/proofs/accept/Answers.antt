-- `accept`: the flags of the rules left out stand for the proposal, or it leaves out more. Assumes nothing.
use mathlib.Core.Path.{sym, ◌∙◌}
use Rattle.laws.proofs.Bools.{contradiction}
use Rattle.outcomes.specs.Decided.{none_struck}
use Rattle.trimmed_text.proofs.Placed.{copies_lined}
use Rattle.trimmed_text.proofs.Held.{places_room, steady_held}
use Rattle.left_out.proofs.Complete.{complete}
use Rattle.accepting.proofs.Judging.{ready_left, judged_whole}
use Rattle.accepting.proofs.accept.Goals as goal

pub leave_out-requires : goal.leave_out-requires
leave_out-requires c =
    let a = c.args in
    let held = c.requires in
    (copies_lined a.policy.file.now a.policy.places.now none_struck _ a.policy.shape.n held.lined held.ready.some (places_room a.policy.file.now a.policy.table.now a.policy.places.now a.policy.shape c.requires) held.ready.few, held.ready.rows)

pub judge-requires : goal.judge-requires
judge-requires c =
    let a = c.args in
    let left = ready_left a.policy.file.now a.policy.table.now a.policy.places.now a.policy.shape c.requires a.proposal.now _ c.leave_out.ensures.1 in
    (steady_held a.policy.file.now a.policy.table.now a.policy.places.now a.policy.shape c.requires, c.requires.ready, left.0, left.1)

pub refuse-requires : goal.refuse-requires
refuse-requires c =
    let a = c.args in
    record { policy = c.requires.policy; is_read = c.requires.is_read; others = λ ended out. contradiction (complete a.policy.file.now a.policy.table.now a.policy.places.now a.policy.shape c.requires a.proposal.now ended out) (sym c.leave_out.ensures.0 ∙ c.if-leave_out.false) }

pub returns-then-leave_out : goal.returns-then-leave_out
returns-then-leave_out c =
    let a = c.args in
    let matched = c.leave_out.ensures in
    c.judge.ensures.0 ∙ judged_whole a.policy.file.now a.policy.table.now a.policy.places.now a.policy.shape c.requires a.proposal.now _ matched.1 (sym matched.0 ∙ c.if-leave_out.true)
