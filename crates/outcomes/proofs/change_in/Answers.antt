-- `change_in`: the words that are laid down are those of the block, or a bit tells where they are not. Assumes nothing.
use mathlib.Core.Path.{sym, ◌∙◌}
use native.Mathlib.Omega.{arith}
use borrow.Author.Tests.{eqb-true}
use Rattle.laws.proofs.Bools.{and_true}
use Rattle.outcomes.proofs.Blocks.{block_fits, block_alike, block_other}
use Rattle.outcomes.proofs.change_in.Goals as goal

pub invariant_of-b : goal.invariant_of-b
invariant_of-b c =
    let t = c.args.table.now in
    let struck = c.args.struck.now in
    let hits = c.args.hits.now in
    let shape = c.args.shape in
    record { fits = block_fits t struck hits shape c.requires.0 c.requires.1 _ (omega (arith, c.requires.0.small)) }

pub bounds-outcomes-block : goal.bounds-outcomes-block
bounds-outcomes-block c = omega (arith, c.requires.0.small)

pub returns-then-eq : goal.returns-then-eq
returns-then-eq c =
    let t = c.args.table.now in
    let struck = c.args.struck.now in
    let hits = c.args.hits.now in
    let shape = c.args.shape in
    let reply = c.reply in
    let (permits, denies) = and_true _ _ (sym c.eq.ensures ∙ c.if-eq.true) in
    block_alike t struck hits shape c.requires.0 c.requires.1 c.args.block reply.result reply.ensures c.args.outcomes.now (eqb-true _ _ permits) (eqb-true _ _ denies)

pub returns : goal.returns
returns c =
    let t = c.args.table.now in
    let struck = c.args.struck.now in
    let hits = c.args.hits.now in
    let shape = c.args.shape in
    let reply = c.reply in
    block_other t struck hits shape c.requires.0 c.requires.1 c.args.block reply.result reply.ensures c.args.outcomes.now _ c.first_other.ensures
