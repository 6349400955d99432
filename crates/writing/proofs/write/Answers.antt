-- `write` meets its contract: the refusal of the attribute lines or of an element, no element, or the text.
use mathlib.Core.Path.{◌≡◌, sym, ap, ◌∙◌}
use native.Mathlib.Omega.{arith}
use mathlib.Core.List.{[]}
use lib.ListN.{length}
use Rattle.std.proofs.Common.{rules, tests}
use Rattle.std.specs.Prelude.{Err}
use Rattle.layout.proofs.Counts.{counts_few}
use Rattle.refusals.proofs.Numbers.{not_zero}
use Rattle.checking.specs.Tested.{number_told}
use Rattle.writing.proofs.Writer.{header_refused, holds, headed, element_refused, none_given, writable, text_written}
use Rattle.writing.proofs.write.Goals as goal

pub returns-in-Err : goal.returns-in-Err
returns-in-Err c =
    let (value, after) = header_refused c.args.header.now c.in-Err.refused c.in-Err.ensures c.args.list.now c.args.out.now in
    record { value = c.into.ensures ∙ value; out_after = after; shaped = λ done. absurd (not_zero c.in-Err.refused.why (sym (ap (λ a. a.number) c.into.ensures) ∙ done)) }

pub invariant_of-values : goal.invariant_of-values
invariant_of-values c =
    let spaced = (holds c.args.header.now c.in-Ok.attributes c.in-Ok.ensures []).spaced in
    record { few = record { few = spaced.standing.few; few_values = λ i l. rw c.counts.ensures (counts_few c.in-Ok.attributes spaced.few_values i l) } }

pub returns-in-Err-check_elements : goal.returns-in-Err-check_elements
returns-in-Err-check_elements c =
    let e = c.in-Err-check_elements.refused in
    let (value, after) = element_refused c.args.header.now c.in-Ok.attributes c.in-Ok.ensures c.args.out.now c.args.list.now (Err e) c.counts.ensures c.in-Err-check_elements.ensures.told (not_zero e.why) in
    record { value = c.into-in-Err-check_elements.ensures ∙ value; out_after = after; shaped = λ done. absurd (not_zero e.why (sym (ap (λ a. a.number) c.into-in-Err-check_elements.ensures) ∙ done)) }

pub returns-then-is_empty : goal.returns-then-is_empty
returns-then-is_empty c =
    let none : length c.args.list.now ≡ 0 = search (rules, tests) in
    let (value, after) = none_given c.args.header.now c.in-Ok.attributes c.in-Ok.ensures c.args.out.now c.args.list.now c.check_elements.result c.counts.ensures c.check_elements.ensures.told none in
    record { value = c.into-then-is_empty.ensures ∙ value; out_after = after; shaped = λ done. absurd (omega (arith, done, ap (λ a. a.number) c.into-then-is_empty.ensures)) }

pub invariant_of-lines : goal.invariant_of-lines
invariant_of-lines c = record { headed = headed c.args.header.now c.in-Ok.attributes c.in-Ok.ensures [] }

pub write_text-requires : goal.write_text-requires
write_text-requires c =
    writable c.args.header.now c.in-Ok.attributes c.in-Ok.ensures [] c.args.list.now c.check_elements.result c.counts.ensures c.check_elements.ensures.told (ap number_told c.in_default.is)

pub returns : goal.returns
returns c =
    let some : length c.args.list.now ≡ 0 → ⊥ = search (rules, tests) in
    let (value, after) = text_written c.args.header.now c.in-Ok.attributes c.in-Ok.ensures c.args.out.now c.args.list.now c.check_elements.result c.counts.ensures c.check_elements.ensures.told (ap number_told c.in_default.is) some (c.write_text.ensures.value, c.write_text.ensures.out_after) in
    record { value = value; out_after = after; shaped = λ done. c.check_elements.ensures.shaped (search rules) }
