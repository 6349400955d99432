-- `check_obligations` meets its contract where an obligation is refused: the first, or the second behind it.
use mathlib.Core.Path.{◌≡◌, refl, sym, ◌∙◌}
use mathlib.Core.List.{[], ◌∷◌}
use native.Mathlib.Omega.{arith}
use borrow.Author.Rules.{rules}
use Rattle.std.specs.Prelude.{Err}
use Rattle.meaning.specs.Model.{word_text}
use Rattle.checking.specs.Tested.{carrying}
use Rattle.checking.proofs.Told.{counted, refusal_told}
use Rattle.checking.proofs.Obliged.{obligation_within, first_refused, second_refused}
use Rattle.checking.proofs.obligations.check_obligations.Goals as goal

pub returns-in_err-on_line : goal.returns-in_err-on_line
returns-in_err-on_line c s =
    let a = c.args in
    let e = c.in_err-on_line.field-0.0 in
    let same : c.from_residual.result ≡ Err e = search rules in
    let number = c.in_err-on_line.ensures.number ∙ c.test_obligation.ensures in
    let other = counted e.why number in
    rw same (refusal_told (Err e) _ _ _ (first_refused a.e a.line s c.if-e-eq0.false other) (obligation_within (carrying a.e.kind []) (word_text a.e.first.word) a.e.first other) (omega arith) number (c.in_err-on_line.ensures.line refl))

pub returns-in_err-on_line-2 : goal.returns-in_err-on_line-2
returns-in_err-on_line-2 c s =
    let a = c.args in
    let e = c.in_err-on_line-2.field-0.0 in
    let same : c.from_residual-in_err-on_line-2.result ≡ Err e = search rules in
    let number = c.in_err-on_line-2.ensures.number ∙ c.test_obligation-2.ensures in
    let other = counted e.why number in
    let first-passed = c.in_ok-on_line.ensures.number ∙ c.test_obligation.ensures in
    rw same (refusal_told (Err e) _ _ _ (second_refused a.e a.line s (sym first-passed) c.if-e-eq0.false c.if-e-eq1.false other) (obligation_within (carrying a.e.kind (a.e.first ∷ [])) (word_text a.e.second.word) a.e.second other) (omega arith) number (c.in_err-on_line-2.ensures.line refl))
