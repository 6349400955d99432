-- `read_header` meets its contract. The loop keeps that the lines left, read behind what was read so far, are the whole; the measure is the bytes left.
use native.Mathlib.Omega.{arith}
use Rattle.header.proofs.HeaderLoop.{too_long, keeps_first, left_over, all_read, refused_here, keeps_next}
use Rattle.header.proofs.read_header.Goals as goal

pub returns-then-header-gt16384 : goal.returns-then-header-gt16384
returns-then-header-gt16384 c = too_long c.args.header.now c.if-header-gt16384.true

pub loop-st-init : goal.loop-st-init
loop-st-init c = keeps_first _ (omega arith) c.start-st.ensures

pub end_of-end-requires : goal.end_of-end-requires
end_of-end-requires c = c.loop-st.invariant.among.ready.in_file.inside

pub returns-then-at-end : goal.returns-then-at-end
returns-then-at-end c = left_over _ _ c.loop-st.invariant _ c.end_of-end.ensures.value c.if-end-header.true c.if-at-end.true

pub returns-then-end-header : goal.returns-then-end-header
returns-then-end-header c = all_read _ _ c.loop-st.invariant _ c.end_of-end.ensures.value c.if-end-header.true c.if-at-end.false

pub header_line-requires : goal.header_line-requires
header_line-requires c =
    let end = c.end_of-end.ensures in
    (c.loop-st.invariant.among, record { starts = end.within.0; ends = omega arith; all_of_it = end.value })

pub returns-in-Err : goal.returns-in-Err
returns-in-Err c = refused_here _ _ c.loop-st.invariant _ c.end_of-end.ensures.value (omega arith) c.in-Err.why c.in-Err.ensures

pub loop-st-smaller : goal.loop-st-smaller
loop-st-smaller c =
    let next = c.in_default.ensures.next in
    omega (arith, next.at_next, next.ready.in_file.inside)

pub loop-st-preserved : goal.loop-st-preserved
loop-st-preserved c = keeps_next _ _ c.loop-st.invariant _ c.end_of-end.ensures.value (omega arith) _ c.in_default.ensures
