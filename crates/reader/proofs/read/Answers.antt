-- `read` meets its contract. The loop keeps that the lines left, read behind what was read so far, are the whole file, and
-- that they lay down the rest of it. The measure is the bytes left.
use Prim.Native.Nat.{◌≤◌, ◌<◌}
use mathlib.Core.Path.{refl}
use native.Mathlib.Omega.{arith}
use borrow.Author.Rules.{rules}
use lib.ListN.{length}
use Rattle.attribute_lines.proofs.Beginning.{beginning_ready}
use Rattle.reader.proofs.Loop.{keeps_first, long_told, ended, refused_here, keeps_next}
use Rattle.reader.proofs.read.Goals as goal

pub returns-then-file-gt16384 : goal.returns-then-file-gt16384
returns-then-file-gt16384 c = long_told _ _ _ c.if-file-gt16384.true

pub loop-found-init : goal.loop-found-init
loop-found-init c =
    let args = c.args in
    let (ready, none) = beginning_ready args.file.now args.table.now args.places.now c.requires.0 c.requires.1 c.requires.2 in
    let size : length args.file.now ≤ 16384 = omega arith in
    (refl, refl, rw c.start-st.ensures ready, size, rw c.start-st.ensures (keeps_first args.file.now args.table.now args.places.now size none))

pub line_at-found-requires : goal.line_at-found-requires
line_at-found-requires c = c.loop-found.invariant.2.in_file.inside

pub returns-then-end-file : goal.returns-then-end-file
returns-then-end-file c =
    let inv = c.loop-found.invariant in
    ended _ _ _ _ _ _ inv.2 inv.3 inv.4 _ c.line_at-found.ensures.all_of_it c.if-end-file.true c.finish.ensures

pub read_line-requires : goal.read_line-requires
read_line-requires c =
    let inv = c.loop-found.invariant in
    let here = c.line_at-found in
    let ends : here.result.end < length c.args.file.now = omega (arith, here.ensures.inside) in
    (inv.2, record { starts = here.ensures.starts; ends = ends; all_of_it = here.ensures.all_of_it }, here.ensures.count ends)

pub returns-in-Err : goal.returns-in-Err
returns-in-Err c =
    let inv = c.loop-found.invariant in
    let here = c.line_at-found.ensures in
    refused_here _ _ _ _ _ _ inv.2 inv.3 inv.4 _ here.all_of_it (omega (arith, here.inside, c.if-end-file.false)) c.in-Err.ensures

pub loop-found-smaller : goal.loop-found-smaller
loop-found-smaller c =
    let next = c.in_default.ensures.next in
    omega (arith, next.at_next, next.ready.in_file.inside)

pub loop-found-preserved : goal.loop-found-preserved
loop-found-preserved c =
    let inv = c.loop-found.invariant in
    let here = c.line_at-found.ensures in
    let step = c.in_default.ensures in
    (search rules, search rules, step.next.ready, inv.3, keeps_next _ _ _ _ _ _ inv.2 inv.3 inv.4 _ here.all_of_it (omega (arith, here.inside, c.if-end-file.false)) step)
