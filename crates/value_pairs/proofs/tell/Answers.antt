-- `tell`: 13, or the lines of the attribute. Assumes nothing.
use mathlib.Core.Path.{ap, ◌∙◌}
use native.Mathlib.Omega.{arith}
use Rattle.value_pairs.specs.Held.{place_or13}
use Rattle.value_pairs.proofs.Told.{sizes_positive, few_requests, no_attribute, inside, some_set, few_sets, some_behind, runs_small, pairs_fitted}
use Rattle.value_pairs.proofs.tell.Goals as goal

pub returns-in_default : goal.returns-in_default
returns-in_default c =
    let told = no_attribute c.args.policy.file.now c.args.attributes.now c.args.policy.table.now c.args.policy.shape c.requires c.args.name.now (c.several_at.ensures ∙ ap place_or13 c.in_default.is) c.args.out.now in
    record { value = c.into.ensures ∙ told.0; out_after = told.1 }

pub decide_requests-requires : goal.decide_requests-requires
decide_requests-requires c = let held = c.requires in (held.ready, omega (arith, held.ready.small))

pub offset_bounds-counts-place : goal.offset_bounds-counts-place
offset_bounds-counts-place c =
    let within = inside c.args.policy.file.now c.args.attributes.now c.args.policy.table.now c.args.policy.shape c.requires c.args.name.now _ (c.several_at.ensures ∙ ap place_or13 c.in-Some.is) in
    omega (arith, within, c.requires.standing.few)

pub bounds-counts-place : goal.bounds-counts-place
bounds-counts-place c =
    let within = inside c.args.policy.file.now c.args.attributes.now c.args.policy.table.now c.args.policy.shape c.requires c.args.name.now _ (c.several_at.ensures ∙ ap place_or13 c.in-Some.is) in
    omega (arith, within, c.requires.standing.few)

pub overflow_add-place : goal.overflow_add-place
overflow_add-place c =
    let within = inside c.args.policy.file.now c.args.attributes.now c.args.policy.table.now c.args.policy.shape c.requires c.args.name.now _ (c.several_at.ensures ∙ ap place_or13 c.in-Some.is) in
    omega (arith, within, c.requires.standing.few)

pub choices_from-behind-requires : goal.choices_from-behind-requires
choices_from-behind-requires c =
    let within = inside c.args.policy.file.now c.args.attributes.now c.args.policy.table.now c.args.policy.shape c.requires c.args.name.now _ (c.several_at.ensures ∙ ap place_or13 c.in-Some.is) in
    (omega (arith, within, c.requires.counted), c.requires.ready.counted.attributes, sizes_positive c.args.policy.file.now c.args.attributes.now c.args.policy.table.now c.args.policy.shape c.requires, few_requests c.args.policy.file.now c.args.attributes.now c.args.policy.table.now c.args.policy.shape c.requires)

pub nonzero_div-runs : goal.nonzero_div-runs
nonzero_div-runs c = omega (arith, some_behind c.args.policy.file.now c.args.attributes.now c.args.policy.table.now c.args.policy.shape c.requires c.args.name.now _ (c.several_at.ensures ∙ ap place_or13 c.in-Some.is) _ c.choices_from-behind.ensures)

pub invariant_of-pairs : goal.invariant_of-pairs
invariant_of-pairs c =
    let found = c.several_at.ensures ∙ ap place_or13 c.in-Some.is in
    record { inside = (some_set _ c.args.attributes.now c.args.policy.table.now c.args.policy.shape c.requires c.args.name.now _ found, few_sets _ c.args.attributes.now c.args.policy.table.now c.args.policy.shape c.requires c.args.name.now _ found, runs_small _ c.args.attributes.now c.args.policy.table.now c.args.policy.shape c.requires c.args.name.now _ found _ c.choices_from-behind.ensures) }

pub returns : goal.returns
returns c =
    let told = pairs_fitted c.args.policy.file.now c.args.attributes.now c.args.policy.table.now c.args.policy.shape c.requires c.args.name.now _ (c.several_at.ensures ∙ ap place_or13 c.in-Some.is) _ c.choices_from-behind.ensures _ c.decide_requests.ensures c.answer.ensures in
    record { value = told.0; out_after = told.1 }
