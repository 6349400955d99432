-- `ask_all`: the words are 0 before the first element is asked. Assumes nothing.
use mathlib.Core.Path.{◌≡◌, ap, ◌∙◌}
use native.Mathlib.Omega.{arith}
use lib.ListN.{length, get_or, get_or-append, replicate}
use lib.Seq.{length-take-le}
use Rattle.std.proofs.lemmas.List.{get_or-replicate}
use Rattle.std.proofs.lemmas.Slice.{drop-append-drop}
use Rattle.chains.proofs.Marking.{root_asked}
use Rattle.chains.proofs.ask_all.Goals as goal

pub returns : goal.returns
returns c =
    let b = c.args.b.now in
    let given = c.args.given.now in
    let asked = c.ask in
    let zeros = c.fill.new.self in
    let own = length-take-le b.n given c.requires.1 in
    let size : length zeros ≡ b.n = c.fill.ensures.len ∙ own in
    let cleared : zeros ≡ replicate b.n 0 = c.fill.ensures.after (λ y e. e) ∙ ap (λ m. replicate m 0) own in
    record {
      bits = root_asked b.table.now b.struck.now b.hits.now b.n b.block _ _ _ _ asked.new.given
          (λ v hit answers. ap (λ r. r.decision) (c.reply.ensures v hit answers)) c.agreed.ensures c.depth_at.ensures.0
          (λ j l. get_or-append zeros _ 0 j (omega (arith, size)) ∙ ap (λ s. get_or s j 0) cleared ∙ get_or-replicate b.n j 0 0 l) asked.ensures.bits;
      behind = asked.ensures.behind ∙ drop-append-drop b.n given zeros b.n (omega arith) size;
    }
