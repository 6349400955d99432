-- `decide_at` by its own test and its word, `fold` by the children passed.
use mathlib.Core.Path.{◌≡◌, sym, ◌∙◌}
use mathlib.Core.Bool.{true, false}
use native.Mathlib.Numerals.{add-one}
use Rattle.std.proofs.Common.{suc, ◌+◌, arith}
use Rattle.meaning.specs.Deciding.{matches, combined}
use Rattle.requests.specs.Values.{values_of, severals_of}
use Rattle.table.specs.Rows.{algorithm_number, word_at, depth_of, word_number, element_at}
use Rattle.decisions.specs.Replies.{reply_of, replies_from}
use Rattle.decisions.proofs.Combining.{step_settled}
use Rattle.decisions.proofs.Children.{children_end, child_step, reply_off, reply_on, algorithm_word}
use Rattle.decisions.proofs.+decide_at_fold.Goals as goal

pub decide_at-returns-then-not-matches : goal.decide_at-returns-then-not-matches
decide_at-returns-then-not-matches t c =
    let args = c.args in
    let tested : matches (severals_of args.a.now.q) (values_of args.a.now.q) (element_at args.a.now.table.now args.at) ≡ false = sym c.matches.ensures ∙ c.if-not-matches.true in
    sym (reply_off (matches (severals_of args.a.now.q) (values_of args.a.now.q)) args.a.now.table.now args.a.now.struck.now args.a.now.n args.at tested)

pub decide_at-returns-in-Permit : goal.decide_at-returns-in-Permit
decide_at-returns-in-Permit t c =
    let args = c.args in
    let tested : matches (severals_of args.a.now.q) (values_of args.a.now.q) (element_at args.a.now.table.now args.at) ≡ true = sym c.matches.ensures ∙ c.if-not-matches.false in
    sym (reply_on (matches (severals_of args.a.now.q) (values_of args.a.now.q)) args.a.now.table.now args.a.now.struck.now args.a.now.n args.at tested ∙ rw (← c.in-Permit.ensures))

pub decide_at-returns-in-Deny : goal.decide_at-returns-in-Deny
decide_at-returns-in-Deny t c =
    let args = c.args in
    let tested : matches (severals_of args.a.now.q) (values_of args.a.now.q) (element_at args.a.now.table.now args.at) ≡ true = sym c.matches.ensures ∙ c.if-not-matches.false in
    sym (reply_on (matches (severals_of args.a.now.q) (values_of args.a.now.q)) args.a.now.table.now args.a.now.struck.now args.a.now.n args.at tested ∙ rw (← c.in-Deny.ensures))

pub decide_at-returns-in_default : goal.decide_at-returns-in_default
decide_at-returns-in_default t c =
    let args = c.args in
    let tested : matches (severals_of args.a.now.q) (values_of args.a.now.q) (element_at args.a.now.table.now args.at) ≡ true = sym c.matches.ensures ∙ c.if-not-matches.false in
    let word = c.word_at in
    let asked : c.fold-decision.result ≡ combined (word_at (word_number args.a.now.table.now args.at)) (replies_from (matches (severals_of args.a.now.q) (values_of args.a.now.q)) args.a.now.table.now args.a.now.struck.now args.a.now.n (suc (depth_of args.a.now.table.now args.at)) (args.at + 1)) =
    rw (← word.ensures, ← algorithm_word word.result c.in_default.not-Permit c.in_default.not-Deny, ← add-one (depth_of args.a.now.table.now args.at), ← c.depth_at-depth.ensures.0) c.fold-decision.ensures in
    sym (reply_on (matches (severals_of args.a.now.q) (values_of args.a.now.q)) args.a.now.table.now args.a.now.struck.now args.a.now.n args.at tested ∙ λ i. record { matched = true; decision = sym asked i })

pub fold-loop-at-preserved : goal.fold-loop-at-preserved
fold-loop-at-preserved t c =
    let args = c.args in
    let turn = c.loop-at in
    let at = c.in-Some in
    let child = c.decide_at-child in
    let step = c.step-so_far in (
      omega (arith, at.ensures.within),
      omega (arith, at.ensures.within),
      step_settled (algorithm_number args.algorithm) (reply_of turn.so_far) (reply_of child.result) (reply_of step.result) step.ensures,
      turn.invariant.3 ∙ child_step (matches (severals_of args.a.now.q) (values_of args.a.now.q)) args.a.now.table.now args.a.now.struck.now args.a.now.n args.depth turn.behind at.at (omega arith) at.ensures.value (algorithm_number args.algorithm) (reply_of turn.so_far) (reply_of child.result) (reply_of step.result) child.ensures step.ensures,
    )

pub fold-returns : goal.fold-returns
fold-returns t c =
    let args = c.args in
    let turn = c.loop-at in
    sym (turn.invariant.3 ∙ rw (children_end (matches (severals_of args.a.now.q) (values_of args.a.now.q)) args.a.now.table.now args.a.now.struck.now args.a.now.n args.depth turn.behind (omega arith) c.in_default.ensures.value) turn.invariant.2)
