-- `ask_one` meets its contract: the words of one request, asked with no element struck.
use native.Mathlib.Omega.{arith}
use borrow.Author.Rules.{rules}
use Rattle.meaning.specs.Deciding.{matches}
use Rattle.requests.specs.Values.{values_of, severals_of}
use Rattle.deciding.proofs.ask_one.Goals as goal

pub match_one-requires : goal.match_one-requires
match_one-requires c =
    let pre = c.requires in
    (pre.0, omega (arith, pre.2), pre.3)

pub invariant_of-b : goal.invariant_of-b
invariant_of-b c =
    let words = c.match_one.ensures.1 in
    record { fits = record { rows = c.requires.0; flags = c.requires.2; words = omega (arith, words, c.requires.2); few = c.requires.2; within = omega arith } }

pub returns : goal.returns
returns c =
    let laid = c.ask_all.ensures in
    let words = c.match_one.ensures.0 in
    (λ i l. laid.bits 0 (matches (severals_of c.args.q) (values_of c.args.q)) words i l, search rules)
