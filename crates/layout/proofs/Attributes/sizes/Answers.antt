-- `sizes`: those still to come, laid behind those that are there, are all.
use Prim.Native.Nat.{◌+◌, ◌-◌}
use mathlib.Core.Path.{sym, ap, ◌∙◌}
use native.Mathlib.Omega.{arith}
use lib.ListN.{set}
use lib.Seq.{sets}
use Rattle.layout.specs.Places.{sizes_from, sizes_of}
use Rattle.layout.proofs.Counts.{sizes_start, sizes_more, sizes_end}
use Rattle.layout.proofs.Attributes.sizes.Goals as goal

pub loop-i-init : goal.loop-i-init
loop-i-init c = sizes_start c.args.self.now c.requires.0

pub loop-i-preserved : goal.loop-i-preserved
loop-i-preserved c =
    let turn = c.loop-i in
    let a = c.args.self.now in
    ap (λ n. sets (set turn.sizes turn.i n) (turn.i + 1) (sizes_from a (turn.i + 1) (a.len - (turn.i + 1)))) c.choices.ensures ∙ sizes_more a turn.sizes a.len turn.i c.loop-i-test.true ∙ turn.invariant

pub returns : goal.returns
unfolding sizes_of
returns c =
    let turn = c.loop-i in
    sym (sizes_end c.args.self.now turn.sizes c.args.self.now.len turn.i (omega arith)) ∙ turn.invariant
