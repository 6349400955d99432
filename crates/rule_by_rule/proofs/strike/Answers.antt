-- `strike`: 15 where no needless rule has the name, else the text without its line, counted and then written. Assumes nothing.
use mathlib.Core.Path.{sym, ◌∙◌}
use native.Mathlib.Omega.{arith}
use Rattle.laws.proofs.Found.{found_some, found_none}
use Rattle.trimmed_text.proofs.Held.{steady_held, named_held, copies_held, small_part}
use Rattle.rule_by_rule.proofs.Struck.{no_element, here, needed, strike_fitted}
use Rattle.rule_by_rule.proofs.strike.Goals as goal

pub element_named-requires : goal.element_named-requires
element_named-requires c = named_held _ _ _ _ c.requires

pub returns-in_default : goal.returns-in_default
returns-in_default c =
    let both = no_element _ _ _ _ c.requires c.args.rule.now (found_none _ (sym c.element_named.ensures ∙ c.in_default.is)) c.args.out.now in
    record { value = c.into.ensures ∙ both.0; out_after = both.1 }

pub is_needless-requires : goal.is_needless-requires
is_needless-requires c =
    (steady_held _ _ _ _ c.requires, c.requires.ready, (here _ _ _ _ c.requires c.args.rule.now _ (found_some _ (sym c.element_named.ensures ∙ c.in-Some.is))).0)

pub returns-then-not-is_needless : goal.returns-then-not-is_needless
returns-then-not-is_needless c =
    let both = needed _ _ _ _ c.requires c.args.rule.now _ (found_some _ (sym c.element_named.ensures ∙ c.in-Some.is)) (sym c.is_needless.ensures.0 ∙ c.if-not-is_needless.true) c.args.out.now in
    record { value = c.into-then-not-is_needless.ensures ∙ both.0; out_after = both.1 }

pub bounds-struck-i : goal.bounds-struck-i
bounds-struck-i c =
    omega (arith, (here _ _ _ _ c.requires c.args.rule.now _ (found_some _ (sym c.element_named.ensures ∙ c.in-Some.is))).0, c.requires.ready.few)

pub invariant_of-kept : goal.invariant_of-kept
invariant_of-kept c =
    record { copies = copies_held _ _ _ _ c.requires _ c.is_needless.ensures.1 _ _; short = small_part _ _ _ _ c.requires _ (omega arith) }

pub returns : goal.returns
returns c =
    let named = found_some _ (sym c.element_named.ensures ∙ c.in-Some.is) in
    let needless = sym c.is_needless.ensures.0 ∙ c.if-not-is_needless.false in
    let both = strike_fitted _ _ _ _ c.requires c.args.rule.now _ named needless _ c.is_needless.ensures.1 c.answer.ensures in
    record { value = both.0; out_after = both.1 }
