-- `PolicyOutcomes::first_given`: none of those passed, and none that is left out, gets other obligations. Assumes nothing.
use Prim.Native.Nat.{◌<◌}
use mathlib.Core.Path.{◌≡◌, refl, sym, ap, ◌∙◌}
use mathlib.Core.Bool.{false, not}
use native.Mathlib.Omega.{arith}
use borrow.Author.Tests.{ne_eqb}
use Rattle.laws.proofs.Bools.{contradiction}
use Rattle.outcomes.proofs.Searching.{up_to}
use Rattle.differences.specs.Marks.{others_given}
use Rattle.differences.proofs.Likes.{left_next}
use Rattle.differences.proofs.PolicyOutcomes.first_given.Goals as goal

pub loop-v-init : goal.loop-v-init
loop-v-init c = (λ u l. absurd (omega arith), λ u among off. contradiction among off)

pub returns-then-bound-from : goal.returns-then-bound-from
returns-then-bound-from c =
    let turn = c.loop-v in
    λ u small l. turn.invariant.0 u (omega (arith, c.if-bound-from.true))

pub loop-v-preserved-then-left-v-ne1 : goal.loop-v-preserved-then-left-v-ne1
loop-v-preserved-then-left-v-ne1 c =
    let turn = c.loop-v in
    (up_to _ turn.v turn.invariant.0 (λ among. turn.invariant.1 turn.v among (ne_eqb _ 1 c.if-left-v-ne1.true)), turn.invariant.1)

pub same-requires : goal.same-requires
same-requires c =
    let pre = c.requires in
    let one = pre.0 in
    let l : c.loop-v.v < 64 = omega arith in
    (record { few = one.few; each = one.each; words = one.words; place = l }, record { few = one.few; each = one.each; words = pre.1; place = l })

pub returns-then-not-same : goal.returns-then-not-same
returns-then-not-same c =
    let turn = c.loop-v in
    record {
      within = omega (arith, c.if-bound-from.false);
      found = (turn.v, omega arith, refl, ap not (sym c.same.ensures ∙ c.if-not-same.true));
      none_earlier = λ u small l. turn.invariant.0 u (omega arith);
    }

pub like_marks-requires : goal.like_marks-requires
like_marks-requires c = (omega arith, c.requires.0.words)

pub like_marks-like-requires : goal.like_marks-like-requires
like_marks-like-requires c = (omega arith, c.requires.1)

pub loop-v-preserved : goal.loop-v-preserved
loop-v-preserved c =
    let args = c.args in
    let p = args.self.now.policy in
    let turn = c.loop-v in
    let here : others_given p.file.now p.places.now p.shape.n args.one.now args.other.now args.permits turn.v ≡ false = ap not (sym c.same.ensures ∙ c.if-not-same.false) in (
      up_to _ turn.v turn.invariant.0 (λ among. here),
      left_next p.file.now p.places.now p.shape.n args.one.now args.other.now args.permits turn.v args.on turn.left _ _ _ _ turn.invariant.1 here c.like_bit-decided.ensures c.like_marks.ensures c.like_marks-like.ensures c.without-left.ensures,
    )

pub returns : goal.returns
returns c =
    let turn = c.loop-v in
    λ u small l. turn.invariant.0 u (omega arith)

pub like_bit-decided-requires : goal.like_bit-decided-requires
like_bit-decided-requires c = omega arith
