-- `fields::field` meets its contract: each turn passes one field.
use mathlib.Core.Path.{◌≡◌, sym, subst, ap, ◌∙◌}
use mathlib.Core.List.{[]}
use Prim.Native.Nat.{ℕ, ◌+◌}
use native.Mathlib.Omega.{arith}
use lib.ListN.{get_or}
use Rattle.meaning.specs.Text.{Bytes, cut, tab}
use Rattle.fields.specs.Places.{field_at, place_after}
use Rattle.fields.proofs.Places.{Passed, none_passed, one_passed, field_here}
use Rattle.fields.proofs.field.Goals as goal

pub loop-i-init : goal.loop-i-init
loop-i-init c =
    record {
      of_line = ap (λ s. s.now) c.start-r.ensures.0;
      passed = subst (Passed c.args.line.now 0) (sym c.start-r.ensures.1) (none_passed c.args.line.now);
    }

pub loop-i-preserved : goal.loop-i-preserved
loop-i-preserved c =
    let line = c.args.line.now in
    let i = c.loop-i._i in
    let kept = c.loop-i.invariant in
    let here : c.advance-r.result.at ≡ place_after line c.loop-i.r.at = c.advance-r.ensures.1 ∙ ap (λ (b : Bytes). place_after b c.loop-i.r.at) kept.of_line in
    record {
      of_line = ap (λ s. s.now) c.advance-r.ensures.0 ∙ kept.of_line;
      passed = subst (Passed line (i + 1)) (sym here) (one_passed line i c.loop-i.r.at kept.passed);
    }

pub returns : goal.returns
returns c =
    let line = c.args.line.now in
    let kept = c.loop-i.invariant in
    let last : c.loop-i._i ≡ c.args.k = omega arith in
    c.current.ensures ∙ ap (λ (b : Bytes). field_at b c.loop-i.r.at) kept.of_line ∙ field_here line c.loop-i._i c.loop-i.r.at kept.passed
    ∙ ap (λ (j : ℕ). get_or (cut tab line) j []) last
