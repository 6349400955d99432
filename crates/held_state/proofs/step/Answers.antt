-- `step`: nothing changes where no rule is found, else the rule's line is closed up. Assumes nothing.
use mathlib.Core.Path.{sym, ◌∙◌}
use native.Mathlib.Omega.{arith}
use Rattle.trimmed_text.proofs.Held.{places_room, steady_held, small_part}
use Rattle.held_state.proofs.Stepping.{none_left, here, gap_lies, struck_so}
use Rattle.held_state.proofs.step.Goals as goal

pub next_struck-found-requires : goal.next_struck-found-requires
next_struck-found-requires c = let held = c.requires in (steady_held _ _ _ _ held, held.ready)

pub overflow_cast-result : goal.overflow_cast-result
overflow_cast-result c = record { fits = small_part _ _ _ _ c.requires _ (omega arith) }

pub returns-in_default : goal.returns-in_default
returns-in_default c =
    let both = none_left _ _ _ _ c.requires (sym c.in_default.is ∙ c.next_struck-found.ensures.0) in
    record { value = both.0; text_after = both.1 }

pub offset_bounds-places-next : goal.offset_bounds-places-next
offset_bounds-places-next c =
    omega (arith, here _ _ _ _ c.requires _ (sym c.in-Some.is ∙ c.next_struck-found.ensures.0), c.requires.ready.few)

pub bounds-places-next : goal.bounds-places-next
bounds-places-next c =
    omega (arith, here _ _ _ _ c.requires _ (sym c.in-Some.is ∙ c.next_struck-found.ensures.0), places_room _ _ _ _ c.requires)

pub lines_end-end-requires : goal.lines_end-end-requires
lines_end-end-requires c =
    (places_room _ _ _ _ c.requires, here _ _ _ _ c.requires _ (sym c.in-Some.is ∙ c.next_struck-found.ensures.0))

pub close_gap-requires : goal.close_gap-requires
close_gap-requires c =
    gap_lies _ _ _ _ c.requires _ (sym c.in-Some.is ∙ c.next_struck-found.ensures.0) _ c.lines_end-end.ensures

pub overflow_sub-result : goal.overflow_sub-result
overflow_sub-result c =
    (gap_lies _ _ _ _ c.requires _ (sym c.in-Some.is ∙ c.next_struck-found.ensures.0) _ c.lines_end-end.ensures).0

pub overflow_sub-result-2 : goal.overflow_sub-result-2
overflow_sub-result-2 c =
    omega (arith, (gap_lies _ _ _ _ c.requires _ (sym c.in-Some.is ∙ c.next_struck-found.ensures.0) _ c.lines_end-end.ensures).1)

pub overflow_cast-result-2 : goal.overflow_cast-result-2
overflow_cast-result-2 c =
    record { fits = small_part _ _ _ _ c.requires _ (omega (arith, gap_lies _ _ _ _ c.requires _ (sym c.in-Some.is ∙ c.next_struck-found.ensures.0) _ c.lines_end-end.ensures)) }

pub returns : goal.returns
returns c =
    let both = struck_so _ _ _ _ c.requires _ (sym c.in-Some.is ∙ c.next_struck-found.ensures.0) _ c.lines_end-end.ensures c.close_gap.ensures in
    record { value = both.0; text_after = both.1 }
