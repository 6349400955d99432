-- `put_text` meets its contract. The loop stores the lines left of one element behind the other's, and stays before the element looked at.
use Prim.Native.Nat.{◌+◌, ◌≤◌}
use native.Mathlib.Omega.{arith}
use lib.ListN.{length}
use Rattle.layout.specs.Places.{part, start_of}
use Rattle.printing.proofs.Laws.{then}
use Rattle.printing.proofs.Walks.{begun, stored, ended_all}
use Rattle.trimmed_text.specs.Copied.{copied}
use Rattle.trimmed_text.proofs.Copying.{length_head, reached_line, reached_end, length_piece, piece_stored}
use Rattle.trimmed_text.proofs.put_text.Goals as goal
use Rattle.trimmed_text.proofs.put_text.Goals.{After-piece_end-end}

pub slice_bounds-put_bytes-end : goal.slice_bounds-put_bytes-end
slice_bounds-put_bytes-end c = let pre = c.requires.0 in omega (arith, pre.inside 0 pre.some)

pub put_bytes-requires : goal.put_bytes-requires
put_bytes-requires c = let pre = c.requires.0 in omega (arith, length_head _ c.args.policy.now.places.now _ _ pre, pre.inside 0 pre.some, c.requires.1)

pub loop-i-init : goal.loop-i-init
loop-i-init c =
    let a = c.args in
    let pre = c.requires.0 in
    (omega (arith, c.put_bytes.ensures.wrote.moved, reached_line a.policy.now.file.now a.policy.now.places.now a.policy.now.shape.n 0 (omega (arith, pre.some)), length_head a.policy.now.file.now a.policy.now.places.now a.struck.now a.policy.now.shape.n pre), begun)

-- the place behind the piece at hand
behind : (c : After-piece_end-end) → let a = c.args in c.loop-i.sink.at + length (part a.policy.now.file.now (start_of a.policy.now.places.now c.loop-i.i) c.piece_end-end.result) ≤ a.sink.now.at + c.piece_end-end.result
behind c =
    let a = c.args in
    let l = c.loop-i in
    let p = c.piece_end-end in
    omega (arith, l.invariant.0, reached_line a.policy.now.file.now a.policy.now.places.now a.policy.now.shape.n l.i c.loop-i-test.true, length_piece a.policy.now.file.now a.policy.now.places.now a.struck.now a.policy.now.shape.n l.i p.result p.ensures, p.ensures.starts)

pub put_bytes-requires-in-loop-i : goal.put_bytes-requires-in-loop-i
put_bytes-requires-in-loop-i c =
    omega (arith, behind (goal.at.put_bytes-requires-in-loop-i c).After-piece_end-end, c.piece_end-end.ensures.inside, c.requires.1)

pub loop-i-preserved : goal.loop-i-preserved
loop-i-preserved c =
    let a = c.args in
    let l = c.loop-i in
    let p = c.piece_end-end in
    let put = c.put_bytes-in-loop-i.ensures in (
      omega (arith, behind (goal.at.loop-i-preserved c).After-piece_end-end, put.wrote.moved, p.ensures.ends),
      stored l.invariant.1 (piece_stored a.policy.now.file.now a.policy.now.places.now a.struck.now a.policy.now.shape.n l.i p.result p.ensures put),
    )

pub returns : goal.returns
unfolding copied
returns c =
    let a = c.args in
    let l = c.loop-i in
    let end = reached_end a.policy.now.file.now a.policy.now.places.now a.policy.now.shape.n l.i c.loop-i-test.false in
    (then c.put_bytes.ensures (ended_all l.invariant.1 a.policy.now.shape.n (omega arith)), omega (arith, l.invariant.0))
