-- `reply` by the bit of its word, `fold` by the children passed, bit by bit.
use mathlib.Core.Path.{◌≡◌, sym, ap, subst, ◌∙◌}
use native.Mathlib.Numerals.{add-one}
use Rattle.std.proofs.Common.{suc, ◌+◌, ◌<◌, false, arith}
use Rattle.meaning.specs.Deciding.{bit, combined}
use Rattle.laws.proofs.Bits.{bit_zero}
use Rattle.table.specs.Rows.{algorithm_number, word_at, depth_of, word_number, element_at}
use Rattle.decisions.specs.Replies.{replies_from}
use Rattle.decisions.proofs.Combining.{step_settled}
use Rattle.decisions.proofs.Children.{children_none, replies_struck, replies_over, replies_deeper, replies_off, replies_step, algorithm_word}
use Rattle.blocks.specs.declared.Replies.{Replies}
use Rattle.blocks.specs.Bits.{decision_bit, reply_bit}
use Rattle.blocks.proofs.Replying.{Folded, reply_none, reply_effect, reply_group}
use Rattle.blocks.proofs.Block.+fold_reply.Goals as goal
use Rattle.blocks.proofs.Block.+fold_reply.Goals.{fold-then-self-at-eq0+else-d-depth+then-d-depth-2+then-matched-ne0, fold-then-self-at-eq0+else-d-depth+else-d-depth-2, fold-else-d-depth-2-via-then-d-depth-2+else-matched-ne0, fold-else-d-depth-2-via-else-d-depth-2, fold-else-self-at-eq0}

pub fold-loop-at-preserved : goal.fold-loop-at-preserved
fold-loop-at-preserved t c =
    let b = c.args.self.now in
    let args = c.args in
    let turn = c.loop-at in
    let inside : turn.at < b.n = omega arith in
    let next : Replies → Type 0 = λ so. Folded b.table.now b.struck.now b.hits.now b.n b.block args.from args.depth args.algorithm so (turn.at + 1) in
    elim c.if-self-at-eq0.branch [
      | fold-then-self-at-eq0+else-d-depth+then-d-depth-2+then-matched-ne0 w ↦
          let step = w.step-so_far in
          subst next (sym w.so_far-is) (
            (λ v. step_settled (algorithm_number args.algorithm) (reply_bit turn.so_far v) (reply_bit w.reply.result v) (reply_bit step.result v) (step.ensures v)),
            λ v hit answers.
                turn.invariant.1 v hit answers
                ∙ replies_step hit b.table.now b.struck.now b.n args.depth turn.at inside _ w.if-self-at-eq0.true w.depth_at-d.ensures.0
                (algorithm_number args.algorithm) (reply_bit turn.so_far v) w.if-d-depth-2.true (reply_bit w.reply.result v) (reply_bit step.result v) (w.reply.ensures v hit answers) (step.ensures v),
          )
      | fold-then-self-at-eq0+else-d-depth+else-d-depth-2 w ↦
          subst next (sym w.so_far-is) (
            turn.invariant.0,
            λ v hit answers.
                turn.invariant.1 v hit answers
                ∙ elim w.else-d-depth-2.branch [
                  | fold-else-d-depth-2-via-then-d-depth-2+else-matched-ne0 m ↦
                      let off : hit (element_at b.table.now turn.at) ≡ false = sym (answers turn.at inside) ∙ ap (λ x. bit x v) (sym m.matched.ensures ∙ m.if-matched-ne0.false) ∙ bit_zero v in
                      replies_off hit b.table.now b.struck.now b.n args.depth turn.at inside _ w.if-self-at-eq0.true w.depth_at-d.ensures.0 (algorithm_number args.algorithm) (reply_bit turn.so_far v) m.if-d-depth-2.true off
                  | fold-else-d-depth-2-via-else-d-depth-2 m ↦
                      rw (replies_deeper hit b.table.now b.struck.now b.n args.depth turn.at inside _ w.if-self-at-eq0.true w.depth_at-d.ensures.0 (omega (arith, m.if-d-depth-2.false, w.if-d-depth.false)))
                ],
          )
      | fold-else-self-at-eq0 w ↦
          subst next (sym w.so_far-is) (
            turn.invariant.0,
            λ v hit answers. turn.invariant.1 v hit answers ∙ rw (replies_struck hit b.table.now b.struck.now b.n args.depth turn.at inside w.if-self-at-eq0.false),
          )
    ]

pub fold-returns-then-d-depth : goal.fold-returns-then-d-depth
fold-returns-then-d-depth t c v hit answers =
    let b = c.args.self.now in
    let turn = c.loop-at in
    let ended = replies_over hit b.table.now b.struck.now b.n c.args.depth turn.at (omega arith) _ c.if-self-at-eq0.true c.depth_at-d.ensures.0 c.if-d-depth.true in
    sym (turn.invariant.1 v hit answers ∙ rw ended (turn.invariant.0 v))

pub fold-returns : goal.fold-returns
fold-returns t c v hit answers =
    let b = c.args.self.now in
    let turn = c.loop-at in
    sym (turn.invariant.1 v hit answers ∙ rw (children_none hit b.table.now b.struck.now b.n c.args.depth turn.at (omega arith)) (turn.invariant.0 v))

pub reply-returns-then-matched-eq0 : goal.reply-returns-then-matched-eq0
reply-returns-then-matched-eq0 t c v hit answers =
    let b = c.args.self.now in
    reply_none b.table.now b.struck.now b.hits.now b.n b.block c.args.at _ v hit answers c.requires c.matched-matched.ensures c.if-matched-eq0.true

pub reply-returns-in-Permit : goal.reply-returns-in-Permit
reply-returns-in-Permit t c v hit answers =
    let b = c.args.self.now in
    reply_effect b.table.now b.struck.now b.hits.now b.n b.block c.args.at _ v hit answers c.requires c.matched-matched.ensures c.permit-given.result _ (c.permit-given.ensures v) (λ rs. rw (← c.in-Permit.ensures))

pub reply-returns-in-Deny : goal.reply-returns-in-Deny
reply-returns-in-Deny t c v hit answers =
    let b = c.args.self.now in
    reply_effect b.table.now b.struck.now b.hits.now b.n b.block c.args.at _ v hit answers c.requires c.matched-matched.ensures c.deny-given.result _ (c.deny-given.ensures v) (λ rs. rw (← c.in-Deny.ensures))

pub reply-returns-in_default : goal.reply-returns-in_default
reply-returns-in_default t c v hit answers =
    let b = c.args.self.now in
    let word = c.word_at in
    let given = c.fold-given in
    let asked : decision_bit given.result v ≡ combined (word_at (word_number b.table.now c.args.at)) (replies_from hit b.table.now b.struck.now b.n (suc (depth_of b.table.now c.args.at)) (c.args.at + 1)) =
    rw (← word.ensures, ← algorithm_word word.result c.in_default.not-Permit c.in_default.not-Deny, ← add-one (depth_of b.table.now c.args.at), ← c.depth_at-depth.ensures.0) (given.ensures v hit answers) in
    reply_group b.table.now b.struck.now b.hits.now b.n b.block c.args.at _ v hit answers c.requires c.matched-matched.ensures given.result asked
