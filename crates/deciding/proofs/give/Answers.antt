-- `give` meets its contract: the text of the obligations, by the words of one request.
use native.Mathlib.Omega.{arith}
use Rattle.deciding.proofs.Telling.{giving, given_told}
use Rattle.deciding.proofs.give.Goals as goal

pub ask_one-requires : goal.ask_one-requires
ask_one-requires c = let ready = c.requires.0 in (ready.rows, ready.some, ready.few, ready.values, ready.few)

pub invariant_of-given : goal.invariant_of-given
invariant_of-given c = record { giving = giving c.requires.0 (omega (arith, c.ask_one.ensures.1, c.requires.0.few)) }

pub returns : goal.returns
returns c =
    let p = c.args.policy in
    rw c.with_decision.ensures (given_told p.file.now p.table.now p.places.now p.shape.n c.args.q c.args.decision c.requires.1 c.requires.2 c.eq.ensures c.ask_one.new.given c.ask_one.ensures.0 c.answer.ensures)
