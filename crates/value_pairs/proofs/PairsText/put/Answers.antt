-- `put`: the lines of the runs so far. Assumes nothing.
use Prim.Native.Nat.{◌%◌}
use mathlib.Core.Path.{sym, ◌∙◌}
use native.Mathlib.Nat.{mod-lt}
use native.Mathlib.Omega.{arith}
use Rattle.printing.proofs.Walks.{begun, stored, passed_over, ended_all}
use Rattle.value_pairs.specs.Lines.{pair_lines}
use Rattle.value_pairs.proofs.SetBits.{this_set}
use Rattle.value_pairs.proofs.PairTexts.{no_pair, a_pair, text_room, pair_room}
use Rattle.value_pairs.proofs.PairsText.put.Goals as goal

pub loop-run-init : goal.loop-run-init
loop-run-init c = begun

pub overflow_add-set : goal.overflow_add-set
overflow_add-set c =
    let p = c.args.self.now in
    omega (arith, mod-lt c.loop-run.run p.inside.0, p.inside.1)

pub later_bit-requires : goal.later_bit-requires
later_bit-requires c =
    let p = c.args.self.now in
    let below = mod-lt c.loop-run.run p.inside.0 in
    (omega arith, omega (arith, below, p.inside.1))

pub loop-run-preserved-in_default : goal.loop-run-preserved-in_default
loop-run-preserved-in_default c =
    let p = c.args.self.now in
    let l = c.loop-run in
    let none = no_pair p.decided.now p.size p.behind l.run (sym c.in_default.is ∙ this_set (l.run % p.size) c.later_bit.ensures) in
    passed_over l.invariant none

pub overflow_sub-low : goal.overflow_sub-low
overflow_sub-low c =
    let p = c.args.self.now in
    let room = pair_room p.size p.behind p.runs c.loop-run.run c.in-Some.high p.inside.0 p.inside.1 p.inside.2 (omega arith) (sym c.in-Some.is ∙ c.later_bit.ensures) in
    omega (arith, room.in_set)

pub overflow_mul-run : goal.overflow_mul-run
overflow_mul-run c =
    let p = c.args.self.now in
    let room = pair_room p.size p.behind p.runs c.loop-run.run c.in-Some.high p.inside.0 p.inside.1 p.inside.2 (omega arith) (sym c.in-Some.is ∙ c.later_bit.ensures) in
    omega (arith, room.inside)

pub overflow_mul-low : goal.overflow_mul-low
overflow_mul-low c =
    let p = c.args.self.now in
    let room = pair_room p.size p.behind p.runs c.loop-run.run c.in-Some.high p.inside.0 p.inside.1 p.inside.2 (omega arith) (sym c.in-Some.is ∙ c.later_bit.ensures) in
    omega (arith, room.low_back, room.inside)

pub overflow_mul-high : goal.overflow_mul-high
overflow_mul-high c =
    let p = c.args.self.now in
    let room = pair_room p.size p.behind p.runs c.loop-run.run c.in-Some.high p.inside.0 p.inside.1 p.inside.2 (omega arith) (sym c.in-Some.is ∙ c.later_bit.ensures) in
    omega (arith, room.high_back, room.inside)

pub put_values-requires : goal.put_values-requires
put_values-requires c =
    let p = c.args.self.now in
    let l = c.loop-run in
    let room = pair_room p.size p.behind p.runs l.run c.in-Some.high p.inside.0 p.inside.1 p.inside.2 (omega arith) (sym c.in-Some.is ∙ c.later_bit.ensures) in
    (room.inside, room.low_back, room.high_back, omega (arith, l.invariant.within, text_room p.behind p.runs l.run p.inside.2 (omega arith), c.requires))

pub loop-run-preserved : goal.loop-run-preserved
loop-run-preserved c =
    let p = c.args.self.now in
    let l = c.loop-run in
    let line = a_pair p.decided.now p.size p.behind l.run c.in-Some.high (this_set (l.run % p.size) (sym c.in-Some.is ∙ c.later_bit.ensures)) c.put_values.ensures in
    stored l.invariant line

pub returns : goal.returns
unfolding pair_lines
returns c =
    let p = c.args.self.now in
    let l = c.loop-run in
    record {
      puts = ended_all l.invariant p.runs (omega arith);
      short = omega (arith, l.invariant.within, text_room p.behind p.runs l.run p.inside.2 (omega arith), c.requires);
    }
