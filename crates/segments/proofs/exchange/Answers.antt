-- `exchange`: the two words that its bits come from. Assumes nothing.
use native.Mathlib.Omega.{arith}
use Rattle.segments.proofs.Turning.{up_inside, down_inside, shift_inside, exchange_low, exchange_high}
use Rattle.segments.proofs.exchange.Goals as goal

pub overflow_add-result : goal.overflow_add-result
overflow_add-result c = let room = up_inside c.args.s c.args.k c.args.j c.requires.1 c.requires.0 c.requires.2 c.if-k-s-eq0.true in omega arith

pub offset_bounds-words-k-then-k-s-eq0 : goal.offset_bounds-words-k-then-k-s-eq0
offset_bounds-words-k-then-k-s-eq0 c = let room = up_inside c.args.s c.args.k c.args.j c.requires.1 c.requires.0 c.requires.2 c.if-k-s-eq0.true in omega arith

pub bounds-words-k-then-k-s-eq0 : goal.bounds-words-k-then-k-s-eq0
bounds-words-k-then-k-s-eq0 c = let room = up_inside c.args.s c.args.k c.args.j c.requires.1 c.requires.0 c.requires.2 c.if-k-s-eq0.true in omega arith

pub overflow_shl-result : goal.overflow_shl-result
overflow_shl-result c = shift_inside _ _ c.requires.1 c.requires.2

pub overflow_sub-result : goal.overflow_sub-result
overflow_sub-result c = down_inside _ _ _ c.requires.1 c.requires.2 c.if-k-s-eq0.false

pub overflow_shr-result : goal.overflow_shr-result
overflow_shr-result c = shift_inside _ _ c.requires.1 c.requires.2

pub returns-then-k-s-eq0 : goal.returns-then-k-s-eq0
returns-then-k-s-eq0 c =
    exchange_low c.args.words.now c.args.s c.args.k c.args.mask c.requires.1 c.requires.0 c.requires.3 c.args.j c.requires.2 c.if-k-s-eq0.true

pub returns-else-k-s-eq0 : goal.returns-else-k-s-eq0
returns-else-k-s-eq0 c =
    exchange_high c.args.words.now c.args.s c.args.k c.args.mask c.requires.1 c.requires.0 c.requires.3 c.args.j c.requires.2 c.if-k-s-eq0.false
