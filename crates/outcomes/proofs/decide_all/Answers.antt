-- `decide_all`: up to the block looked at, the words tell what each request gets. Assumes nothing.
use native.Mathlib.Omega.{arith}
use lib.Seq.{set-set}
use borrow.Author.Rules.{rules}
use Rattle.outcomes.proofs.Blocks.{block_fits, given_outcome}
use Rattle.outcomes.proofs.LayingOutcomes.{outcomes_none, outcomes_next, outcomes_laid, outcomes_rest}
use Rattle.outcomes.proofs.decide_all.Goals as goal

pub loop-block-init : goal.loop-block-init
loop-block-init c = outcomes_none _ _

pub overflow_add-block-end : goal.overflow_add-block-end
overflow_add-block-end c = omega (arith, c.requires.0.small)

pub invariant_of-b : goal.invariant_of-b
invariant_of-b c =
    let ready = c.requires.0 in
    record { fits = block_fits c.args.table.now c.args.struck.now c.args.hits.now c.args.shape ready c.requires.1 _ (omega (arith, ready.small)) }

pub bounds-outcomes-block : goal.bounds-outcomes-block
bounds-outcomes-block c = let size = c.loop-block.invariant.size in omega (arith, c.requires.0.small)

-- (`set-set`: two writes to one block are one, also where an edit writes the halves one by one.)
pub loop-block-preserved : goal.loop-block-preserved
loop-block-preserved c =
    let turn = c.loop-block in
    let t = c.args.table.now in
    let struck = c.args.struck.now in
    let shape = c.args.shape in
    let ready = c.requires.0 in
    let given = given_outcome t struck c.args.hits.now shape ready c.requires.1 turn.block c.reply.result c.reply.ensures (omega arith) in
    let size = turn.invariant.size in
    outcomes_next c.reply.result.given (search (rules, set-set)) given (omega (arith, ready.small)) turn.invariant

pub returns : goal.returns
returns c =
    let turn = c.loop-block in
    let t = c.args.table.now in
    let struck = c.args.struck.now in
    let shape = c.args.shape in
    (outcomes_laid t struck shape _ turn.outcomes turn.block turn.invariant (omega arith) (omega arith) (omega arith), outcomes_rest t struck shape _ turn.outcomes turn.block turn.invariant (omega arith) (omega arith))
