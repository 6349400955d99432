use mathlib.Core.Path.{refl}
use native.Mathlib.Omega.{arith}
use borrow.Author.Rules.{rules}
use Rattle.conflicts.specs.Pairs.{shown_by}
use Rattle.conflicts.proofs.PairSteps.{pairs_more, others_more}
use Rattle.conflicts.proofs.Rows.pair_all.Goals as goal

pub loop-j-init : goal.loop-j-init
loop-j-init c = (λ i l. absurd (omega arith), refl, λ j k h. refl)

pub pair_later-requires : goal.pair_later-requires
pair_later-requires c =
    let pre = c.requires in
    let l = c.loop-j in
    (record { few = pre.few; parents_room = pre.parents_room; rows = pre.rows; pairs_room = omega (arith, pre.pairs_room, l.invariant.1) }, omega arith)

pub loop-j-preserved : goal.loop-j-preserved
loop-j-preserved c =
    let args = c.args in
    let l = c.loop-j in
    let call = c.pair_later in
    let new = call.new.pairs in (
      pairs_more args.parents.now (shown_by args.self.now.applied.now args.self.now.permits.now args.self.now.denies.now) args.n args.self.now.space l.j l.pairs new l.invariant.0 call.ensures.0 call.ensures.1,
      search rules,
      others_more args.parents.now args.n l.j args.pairs.now l.pairs new l.invariant.2 call.ensures.1,
    )

pub returns : goal.returns
returns c =
    let l = c.loop-j in
    (λ j k i child. l.invariant.0 j (omega (arith, child.after, child.within)) k i child, l.invariant.2)
