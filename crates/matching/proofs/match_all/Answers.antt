-- `match_all`: the words of the first i elements are right. Assumes nothing.
use Prim.Native.Nat.{◌+◌, ◌/◌}
use mathlib.Core.Path.{◌≡◌, refl, ◌∙◌}
use native.Mathlib.Omega.{arith}
use borrow.Author.Rules.{rules}
use lib.ListN.{length, length-set}
use Rattle.matching.proofs.Copying.{copied_is, rest_none, rest_next}
use Rattle.matching.proofs.Targets.{hits_none, hits_next}
use Rattle.matching.proofs.match_all.Goals as goal

pub loop-i-init : goal.loop-i-init
loop-i-init c = let args = c.args in (refl, hits_none args.table.now args.shape args.hits.now, rest_none args.shape.space args.hits.now)

pub loop-i-preserved : goal.loop-i-preserved
loop-i-preserved c =
    let turn = c.loop-i in
    let put = c.copy_plane in
    let t = c.args.table.now in
    let shape = c.args.shape in
    let own = c.masks_at in
    let masks = c.match_masks-plane in
    let wide : length masks.result ≡ 64 = search rules in
    let copied = copied_is masks.result ((shape.space + 63) / 64) turn.i turn.hits put.new.row put.ensures (omega arith) (omega arith) in (
      length-set turn.hits turn.i put.new.row ∙ turn.invariant.0,
      hits_next t shape (omega arith) (omega arith) turn.invariant.1 own.ensures (λ m l. masks.ensures.bits m (omega (arith, c.requires.counted.all))) copied,
      rest_next shape.space c.args.hits.now c.requires.small (λ m a b. masks.ensures.clear m (omega (arith, c.requires.counted.all)) b) (length-set turn.hits turn.i put.new.row) copied turn.invariant.2,
    )

pub returns : goal.returns
returns c =
    let turn = c.loop-i in
    let all : turn.i ≡ c.args.shape.n = omega arith in
    let rest = rw all at turn.invariant.2 in
    (record { room = omega (arith, turn.invariant.0, c.requires.room, c.requires.few); hits_are = rw all at turn.invariant.1; clear = rest.clear }, rest)
