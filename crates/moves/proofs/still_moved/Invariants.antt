-- `still_moved`: each bit of the two sides says what the children passed give, as long as they are apart. Assumes nothing.
use Prim.Native.Nat.{ℕ}
use mathlib.Core.Path.{◌≡◌}
use mathlib.Core.Bool.{Bool}
use Rattle.meaning.specs.declared.Element.{Element}
use Rattle.meaning.specs.Deciding.{bit}
use Rattle.table.specs.Rows.{word_at, word_number, algorithm_number}
use Rattle.blocks.specs.Bits.{reply_bit, Answers}
use Rattle.moves.specs.Moved.{Child}
use Rattle.moves.proofs.Turns.{So}
use Rattle.moves.proofs.still_moved.Given as goal

abbrev pub invariant-loop-at : goal.invariant-loop-at
invariant-loop-at l =
    let b = l.b in
    (child : Child b.table.now b.struck.now b.n l.up l.rule) (is : algorithm_number l.algorithm ≡ algorithm_number (word_at (word_number b.table.now l.up))) (v : ℕ) (hit : Element → Bool) → Answers b.table.now b.hits.now b.n b.block v hit
    → So hit b.table.now b.struck.now b.n l.up l.rule (algorithm_number l.algorithm) child b.fits.flags is (bit l.apart v) (reply_bit l.sides.with v) (reply_bit l.sides.without v) l.at
