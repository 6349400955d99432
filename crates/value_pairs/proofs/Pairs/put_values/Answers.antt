-- `put_values`: the lines of the requests so far. Assumes nothing.
use native.Mathlib.Omega.{arith}
use Rattle.printing.proofs.Walks.{begun, stored, ended_all}
use Rattle.value_pairs.specs.Lines.{value_lines}
use Rattle.value_pairs.proofs.Pairs.put_values.Goals as goal

pub loop-k-init : goal.loop-k-init
loop-k-init c = begun

pub put_pair-requires : goal.put_pair-requires
put_pair-requires c =
    let pre = c.requires in
    let l = c.loop-k in
    (omega (arith, pre), omega (arith, pre), omega (arith, pre), omega (arith, pre, l.invariant.within))

pub loop-k-preserved : goal.loop-k-preserved
loop-k-preserved c =
    let l = c.loop-k in
    stored l.invariant c.put_pair.ensures

pub returns : goal.returns
unfolding value_lines
returns c =
    let args = c.args in
    let l = c.loop-k in
    (ended_all l.invariant args.self.now.behind (omega arith), omega (arith, l.invariant))
