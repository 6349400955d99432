-- `judge`: the first request that differs, else the topmost needless rule. Assumes nothing.
use mathlib.Core.Path.{◌≡◌, refl, sym, ap, ◌∙◌}
use mathlib.Core.Option.{none, some}
use Rattle.std.proofs.lemmas.Grind.{common_steps}
use native.Mathlib.Omega.{arith}
use lib.ListN.{length}
use Rattle.laws.proofs.Found.{found_some, found_none}
use Rattle.differences.proofs.Apart.{obligation_room}
use Rattle.accepting.proofs.Judging.{requests, rule_below, request_below, no_request, same_laid, told_request, told_none, told_rule}
use Rattle.accepting.proofs.judge.Goals as goal
use Rattle.accepting.proofs.judge.Goals.{In-Some, In_default}

-- the request at hand is the first that differs, or none differs
here : (c : In-Some) → let a = c.args in requests a.policy.file.now a.policy.places.now a.policy.table.now a.policy.shape a.struck.now ≡ some c.in-Some.request
here c = found_some _ (sym c.first_difference-first.ensures ∙ grind (arith, common_steps))

nowhere : (c : In_default) → let a = c.args in requests a.policy.file.now a.policy.places.now a.policy.table.now a.policy.shape a.struck.now ≡ none
nowhere c =
    let a = c.args in
    no_request a.policy.file.now a.policy.places.now a.policy.table.now a.policy.shape a.struck.now c.first_difference-first.ensures (λ m is below. grind (arith, common_steps))

pub any_obligations-obliged-requires : goal.any_obligations-obliged-requires
any_obligations-obliged-requires c = obligation_room c.requires.0.obliged c.requires.1

pub overflow_cast-refused : goal.overflow_cast-refused
overflow_cast-refused c =
    let a = c.args in
    omega (arith, request_below a.policy.file.now a.policy.places.now a.policy.table.now a.policy.shape a.struck.now _ (here (goal.at.overflow_cast-refused c).In-Some), c.requires.1.small)

pub returns-in-Some : goal.returns-in-Some
returns-in-Some c =
    let a = c.args in
    (c.into.ensures ∙ told_request a.policy.file.now a.policy.places.now a.policy.table.now a.policy.shape a.struck.now _ (here (goal.at.returns-in-Some c).In-Some), refl)

pub first_needless-requires : goal.first_needless-requires
first_needless-requires c =
    let a = c.args in
    let outcomes = c.find_outcomes.ensures in
    let none = nowhere (goal.at.first_needless-requires c).In_default in
    record { steady = c.requires.0; ready = c.requires.2; matched = outcomes.0; holds = same_laid a.policy.file.now a.policy.places.now a.policy.table.now a.policy.shape a.struck.now none _ outcomes.2 }

pub returns-in_default-first_needless : goal.returns-in_default-first_needless
returns-in_default-first_needless c =
    let a = c.args in
    let none = nowhere (goal.at.returns-in_default-first_needless c).In_default in
    let rule = c.first_needless.ensures in
    (told_none a.policy.file.now a.policy.places.now a.policy.table.now a.policy.shape a.struck.now none (found_none _ (sym rule.0 ∙ c.in_default-first_needless.is)), rule.1)

pub line_of-requires : goal.line_of-requires
line_of-requires c =
    let a = c.args in
    let (rule, same) = c.in-Some-first_needless.ensures in
    let here = rule_below a.policy.file.now a.policy.places.now a.policy.table.now a.policy.shape a.struck.now _ (found_some _ (sym rule)) in
    let ready = c.requires.2 in
    (omega (arith, here, obligation_room c.requires.0.obliged ready), omega (arith, here, ready.flags, ap length same), omega (arith, here, ready.few), ready.counted.attributes)

pub returns : goal.returns
returns c =
    let a = c.args in
    let none = nowhere (goal.at.returns c).In_default in
    let (rule, same) = c.in-Some-first_needless.ensures in
    (c.into-2.ensures ∙ told_rule a.policy.file.now a.policy.places.now a.policy.table.now a.policy.shape a.struck.now none _ (found_some _ (sym rule)) _ same _ c.line_of.ensures.0, same)
