use mathlib.Core.Path.{refl, sym, ◌∙◌}
use Prim.Native.Nat.{◌<◌}
use mathlib.Core.List.{[]}
use native.Mathlib.Omega.{arith}
use lib.ListN.{length, get_or}
use borrow.Author.Tests.{not-true, not-false}
use Rattle.conflicts.specs.Pairs.{shown_by, Later}
use Rattle.conflicts.proofs.Showing.{first_or, first_within}
use Rattle.std.proofs.lemmas.Option.{same_Some, none-some}
use Rattle.conflicts.proofs.PairSteps.{some_eq, some_ne, pairs_begun, pair_skipped, pair_laid, pairs_ended, no_pair}
use Rattle.conflicts.proofs.Rows.pair_later.Goals as goal

pub returns-in_default : goal.returns-in_default
returns-in_default c =
    let args = c.args in (
      no_pair args.parents.now (shown_by args.self.now.applied.now args.self.now.permits.now args.self.now.denies.now) args.n args.self.now.space args.pairs.now args.j args.pairs.now
          (λ i inside e. let same = same_Some _ _ (sym e ∙ c.in-Some.is) in omega (arith, c.if-parent-n.false)),
      λ l k h. refl,
    )

pub returns-in_default-2 : goal.returns-in_default-2
returns-in_default-2 c =
    let args = c.args in
    (no_pair args.parents.now (shown_by args.self.now.applied.now args.self.now.permits.now args.self.now.denies.now) args.n args.self.now.space args.pairs.now args.j args.pairs.now (λ i inside e. none-some _ (sym c.in_default.is ∙ e)), λ l k h. refl)

pub loop-k-init : goal.loop-k-init
loop-k-init c =
    let args = c.args in
    (pairs_begun args.parents.now (shown_by args.self.now.applied.now args.self.now.permits.now args.self.now.denies.now) args.n args.self.now.space args.pairs.now args.j, refl)

pub loop-k-preserved-then-ne : goal.loop-k-preserved-then-ne
loop-k-preserved-then-ne c =
    let args = c.args in
    let l = c.loop-k in
    let other = some_ne _ _ (not-true _ (sym c.ne.ensures ∙ c.if-ne.true)) in
    (pair_skipped args.parents.now (shown_by args.self.now.applied.now args.self.now.permits.now args.self.now.denies.now) args.n args.self.now.space args.pairs.now args.j _ c.in-Some.is l.k l.pairs l.invariant.0 other, l.invariant.1)

pub first_shown-shown-requires : goal.first_shown-shown-requires
first_shown-shown-requires c =
    let pre = c.requires in
    (pre.0.rows, omega (arith, pre.0.few), omega (arith, pre.0.few), omega (arith, pre.0.few))

pub overflow_cast-pairs : goal.overflow_cast-pairs
overflow_cast-pairs c = omega (arith, first_within _ _ c.first_shown-shown.ensures c.unwrap_or.ensures, c.requires.0.rows.small)

pub bounds-pairs-j : goal.bounds-pairs-j
bounds-pairs-j c = omega (arith, c.requires.0.few, c.requires.0.pairs_room, c.loop-k.invariant.1)

pub loop-k-preserved : goal.loop-k-preserved
loop-k-preserved c =
    let args = c.args in
    let l = c.loop-k in
    let pre = c.requires in
    let parent = c.in-Some.parent in
    let inside : args.j < length l.pairs = omega (arith, pre.0.few, pre.0.pairs_room, l.invariant.1) in
    let room : l.k < length (get_or l.pairs args.j []) = omega (arith, l.invariant.0.widths args.j, c.told-pairs args.j (omega (arith, inside, l.invariant.1)), pre.0.few) in
    let later : Later args.parents.now args.n parent args.j l.k =
    record { after = omega arith; within = omega arith; some = c.if-parent-n.true; child = c.in-Some.is; sibling = some_eq _ _ (not-false _ (sym c.ne.ensures ∙ c.if-ne.false)) } in
    let laid = pair_laid args.parents.now (shown_by args.self.now.applied.now args.self.now.permits.now args.self.now.denies.now) args.n args.self.now.space args.pairs.now args.j parent c.in-Some.is l.k l.pairs l.invariant.0 _ later inside room (first_or _ _ c.first_shown-shown.ensures c.unwrap_or.ensures) in
    (laid, laid.same_length)

pub returns : goal.returns
returns c =
    let args = c.args in
    let l = c.loop-k in
    (pairs_ended args.parents.now (shown_by args.self.now.applied.now args.self.now.permits.now args.self.now.denies.now) args.n args.self.now.space args.pairs.now args.j _ c.in-Some.is l.k l.pairs l.invariant.0 (omega (arith, c.loop-k-test)), l.invariant.0.others)
