-- `ask` by the words that its loop keeps.
use mathlib.Core.Path.{◌≡◌, refl, ap, ◌∙◌}
use mathlib.Core.Bool.{true, false}
use native.Mathlib.Numerals.{add-one}
use lib.Seq.{drop-set-lt}
use Rattle.std.proofs.Common.{◌<◌, arith}
use Rattle.table.specs.Rows.{depth_of}
use Rattle.chains.specs.Chain.{asks}
use Rattle.chains.proofs.Words.{effect_asks, algorithm_asks}
use Rattle.chains.proofs.Marking.{effect_marks, ends, stops, asks_one}
use Rattle.chains.proofs.+ask.Goals as goal
use Rattle.chains.proofs.+ask.Goals.{in-Permit, in_default}

pub returns-then-matches : goal.returns-then-matches
returns-then-matches t c =
    let args = c.args in
    let b = args.b.now in
    let none : asks args.a.word ≡ false = elim c.match-matches.branch [ in-Permit w ↦ effect_asks args.a.word w.in-Permit.is | in_default w ↦ absurd (cc (w.matches-is, c.if-matches.true)) ] in
    record { bits = effect_marks b.table.now b.struck.now b.hits.now b.n b.block args.from args.a.depth args.a.word args.a.on args.a.first args.given.now args.given.now args.a.on args.from (λ v hit answers j. refl) none; behind = refl }

pub returns-then-left-eq0 : goal.returns-then-left-eq0
returns-then-left-eq0 t c =
    let args = c.args in
    let b = args.b.now in
    let turn = c.loop-at in
    record { bits = stops b.table.now b.struck.now b.hits.now b.n b.block args.from args.a.depth args.a.word args.a.on args.a.first args.given.now turn.given turn.left turn.behind turn.invariant.3 c.if-left-eq0.true; behind = turn.invariant.2 }

pub loop-at-preserved : goal.loop-at-preserved
loop-at-preserved t c =
    let args = c.args in
    let b = args.b.now in
    let turn = c.loop-at in
    let at = c.in-Some in
    let reply = c.reply in
    let agreed = c.agreed in
    let depth = c.depth_at in
    let word = c.word_at in
    let below = c.ask in
    let group : asks args.a.word ≡ true = elim c.match-matches.branch [ in-Permit w ↦ absurd (cc (w.matches-is, c.if-matches.false)) | in_default w ↦ algorithm_asks args.a.word w.in_default.not-Permit w.in_default.not-Deny ] in
    let inside : at.at < b.n = omega (arith, at.ensures.within) in (
      omega (arith, at.ensures.within),
      omega (arith, at.ensures.within),
      below.ensures.behind ∙ drop-set-lt b.n turn.given at.at _ inside ∙ turn.invariant.2,
      asks_one b.table.now b.struck.now b.hits.now b.n b.block args.from args.a.depth args.a.word args.a.on args.a.first args.given.now turn.given turn.left turn.behind turn.invariant.3 (omega arith) at.at at.ensures.value group (omega (arith, c.loop-at.auto.given, c.requires.1)) reply.result.given agreed.result _ _ below.new.given
          (λ v hit answers. ap (λ r. r.decision) (reply.ensures v hit answers)) agreed.ensures c.settled-ended.ensures c.without-left.ensures
          (λ v hit answers j. rw (← word.ensures, ← add-one (depth_of b.table.now at.at), ← depth.ensures.0) (below.ensures.bits v hit answers j)),
    )

pub returns : goal.returns
returns t c =
    let args = c.args in
    let b = args.b.now in
    let turn = c.loop-at in
    record { bits = ends b.table.now b.struck.now b.hits.now b.n b.block args.from args.a.depth args.a.word args.a.on args.a.first args.given.now turn.given turn.left turn.behind turn.invariant.3 (omega arith) c.in_default-next_child.ensures.value; behind = turn.invariant.2 }
