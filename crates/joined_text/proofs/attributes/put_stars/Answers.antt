-- `put_stars`: the loop keeps `i` of them. Assumes nothing.
use native.Mathlib.Omega.{arith}
use Rattle.printing.proofs.Walks.{begun, stored, ended_all}
use Rattle.printing.proofs.Laws.{same_text}
use Rattle.joined_text.proofs.Header.{stars}
use Rattle.joined_text.proofs.attributes.put_stars.Goals as goal

pub loop-i-init : goal.loop-i-init
loop-i-init c = begun

pub put_bytes-requires : goal.put_bytes-requires
put_bytes-requires c = let l = c.loop-i in omega (arith, c.requires, l.invariant.within)

pub loop-i-preserved : goal.loop-i-preserved
loop-i-preserved c =
    let l = c.loop-i in
    let put = c.put_bytes.ensures in
    stored l.invariant (put, omega (arith, put.wrote.moved))

pub returns : goal.returns
returns c =
    let args = c.args in
    let l = c.loop-i in
    let all = ended_all l.invariant args.n (omega (arith)) in
    (same_text (stars 0 args.n) all, omega (arith, l.invariant.within))
