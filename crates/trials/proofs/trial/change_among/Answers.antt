-- `change_among`: a copy of the flags that leaves the rule is compared; without obligations the decisions tell. Assumes nothing.
use Prim.Native.Nat.{◌≤◌}
use mathlib.Core.Path.{refl, sym, ◌∙◌}
use native.Mathlib.Omega.{arith}
use lib.ListN.{length}
use Rattle.moves.specs.Moved.{kept}
use Rattle.differences.proofs.Marking.{first_decided}
use Rattle.trials.proofs.Comparing.{compared, suspects_copied, found_copied}
use Rattle.trials.proofs.trial.change_among.Goals as goal

pub returns-then-not-o : goal.returns-then-not-o
returns-then-not-o c =
    let args = c.args in
    let o = args.o.now in
    let p = o.policy in
    let trial = c.requires.0 in
    let none = sym o.told ∙ c.if-not-o.true in
    let both = compared p.file.now p.places.now p.table.now args.struck.now o.hits.now o.outcomes.now p.shape args.rule trial args.struck.now trial.aside.ready.flags (λ i l. refl) in
    first_decided p.file.now p.places.now p.table.now (kept args.struck.now args.rule) args.struck.now o.hits.now o.outcomes.now p.shape both none args.block _ c.change_in.ensures

pub difference_in-requires : goal.difference_in-requires
difference_in-requires c =
    let args = c.args in
    let o = args.o.now in
    let p = o.policy in
    let pre = c.requires in
    let copying = c.copy_flags in
    let copy = copying.new.copy in
    let room : p.shape.n ≤ length copy = omega (arith, copying.ensures.1, pre.0.aside.ready.few) in (
      compared p.file.now p.places.now p.table.now args.struck.now o.hits.now o.outcomes.now p.shape args.rule pre.0 copy room copying.ensures.0,
      pre.1,
      suspects_copied p.file.now p.places.now p.table.now args.struck.now o.hits.now o.outcomes.now p.shape args.rule pre.0 copy room copying.ensures.0 args.block args.on pre.2,
    )

pub returns : goal.returns
returns c =
    let args = c.args in
    let o = args.o.now in
    let p = o.policy in
    let pre = c.requires in
    let copying = c.copy_flags in
    let copy = copying.new.copy in
    let room : p.shape.n ≤ length copy = omega (arith, copying.ensures.1, pre.0.aside.ready.few) in
    found_copied p.file.now p.places.now p.table.now args.struck.now o.hits.now o.outcomes.now p.shape args.rule pre.0 copy room copying.ensures.0 args.block _ c.difference_in.ensures
