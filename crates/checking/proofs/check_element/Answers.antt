-- `check_element` meets its contract: its own line, then its obligations.
use mathlib.Core.Path.{◌≡◌, refl, sym, ◌∙◌, subst⁻¹}
use native.Mathlib.Omega.{arith}
use lib.ListN.{take}
use borrow.Author.Rules.{rules}
use Rattle.std.specs.Prelude.{Err}
use Rattle.checking.specs.Tested.{behind, CheckedAs}
use Rattle.checking.proofs.Told.{counted, refusal_told}
use Rattle.checking.proofs.Walk.{own_number, own_within, own_refused, own_passed, few_before, stand_ins, stand_in_counts}
use Rattle.checking.proofs.check_element.Goals as goal

pub returns-in_err-on_line-clause-told : goal.returns-in_err-on_line-clause-told
returns-in_err-on_line-clause-told c attrs are =
    let a = c.args in
    let i = a.tree.len in
    let e = c.in_err-on_line.field-0.0 in
    let same : c.from_residual.result ≡ Err e = search rules in
    let number = c.in_err-on_line.ensures.number ∙ c.test_element.ensures attrs are in
    let other : (own_number attrs a.all.now i a.e ≡ 0 → ⊥) = counted e.why number in
    rw same (refusal_told (Err e) _ _ _ (own_refused attrs a.all.now i a.e a.line other) (own_within attrs a.all.now i a.e other) (omega (arith, c.requires.1, c.requires.0.few)) number (c.in_err-on_line.ensures.line refl))

pub check_obligations-requires : goal.check_obligations-requires
check_obligations-requires c =
    let a = c.args in
    let ns = take a.values.now.len a.values.now.counts in
    let passed = sym (c.test_element.ensures (stand_ins ns) (stand_in_counts ns)) ∙ sym c.in_ok-on_line.ensures.number in
    omega (arith, c.requires.1, few_before (stand_ins ns) a.all.now a.tree.len a.e passed)

pub returns-clause-told : goal.returns-clause-told
returns-clause-told c attrs are =
    let a = c.args in
    let i = a.tree.len in
    let passed = sym (c.test_element.ensures attrs are) ∙ sym c.in_ok-on_line.ensures.number in
    subst⁻¹ (CheckedAs c.check_obligations.result) (own_passed attrs a.all.now i a.e a.line passed) (c.check_obligations.ensures (behind attrs a.all.now i))
