-- `Marks::put`: the obligations of the elements so far.
use native.Mathlib.Omega.{arith}
use borrow.Author.Tests.{ne_eqb, eq-eqb}
use Rattle.printing.proofs.Walks.{begun, stored, passed_over, ended_all}
use Rattle.obligations.specs.Given.{given_text}
use Rattle.obligations.proofs.Marks.put.Goals as goal
use Rattle.obligations.proofs.Marks.put.Goals.{then-self-i-eq1, else-self-i-eq1}

pub loop-i-init : goal.loop-i-init
loop-i-init c = begun

pub put_own-requires : goal.put_own-requires
put_own-requires c =
    let l = c.loop-i in
    (c.requires.0.each l.i (omega arith), omega (arith, l.invariant.within, c.requires.0.few, c.requires.1))

pub loop-i-preserved : goal.loop-i-preserved
loop-i-preserved c =
    let l = c.loop-i in
    elim c.if-self-i-eq1.branch [
      | then-self-i-eq1 w ↦ rw w.sink-is (stored l.invariant (rw (eq-eqb _ 1 w.if-self-i-eq1.true) w.put_own.ensures))
      | else-self-i-eq1 w ↦ rw w.sink-is (passed_over l.invariant (rw (ne_eqb _ 1 w.if-self-i-eq1.false)))
    ]

pub returns : goal.returns
unfolding given_text
returns c =
    let a = c.args in
    let m = a.self.now in
    let l = c.loop-i in
    (ended_all l.invariant m.n (omega arith), omega (arith, l.invariant.within, c.requires.0.few))
