-- `obligation_line` meets its contract: each answer is a step of `ObligationSteps`.
use Rattle.std.specs.Prelude.{Err}
use Prim.Native.Nat.{◌+◌, ◌-◌}
use mathlib.Core.Path.{◌≡◌, refl, ◌∙◌}
use native.Mathlib.Omega.{arith}
use borrow.Author.Rules.{rules}
use Rattle.obligation_lines.proofs.ObligationSteps.{count_told, refused_told, read_told, same_slot}
use Rattle.obligation_lines.proofs.obligation_line.Goals as goal

pub returns-then-fields-ne3 : goal.returns-then-fields-ne3
returns-then-fields-ne3 c = count_told _ _ _ _ _ c.requires.2 c.if-fields-ne3.true

pub returns-in_err-obligation_refusal : goal.returns-in_err-obligation_refusal
returns-in_err-obligation_refusal c =
    let same : c.from_residual.result ≡ Err c.in_err-obligation_refusal.field-0.0 = search rules in
    rw same (refused_told _ _ _ _ _ c.requires.2 c.if-fields-ne3.false _ c.in_err-obligation_refusal.ensures)

pub overflow_sub-last : goal.overflow_sub-last
overflow_sub-last c = c.in_ok-obligation_refusal.ensures.some refl

pub put_obligation-requires : goal.put_obligation-requires
put_obligation-requires c =
    let passed = c.in_ok-obligation_refusal.ensures in
    let counted = c.obligation_count-count.ensures.value in
    ((c.requires.3 (c.args.st.now.tree.len - 1) (omega (arith, passed.some refl))).room, omega (arith, counted, passed.free refl))

pub returns : goal.returns
returns c =
    let args = c.args in
    let counted = c.obligation_count-count.ensures.value in
    let named = c.field.ensures in
    read_told _ _ _ _ _ c.requires.2 c.if-fields-ne3.false c.in_ok-obligation_refusal.ensures refl (c.put_obligation.ensures ∙ same_slot args.places.now (args.st.now.tree.len - 1) (args.st.now.at + 2) counted named)
