-- `Segments::find`: what the functions that it calls lay down. Assumes nothing.
use native.Mathlib.Omega.{arith}
use Rattle.reporting.proofs.Finding.{segments_found}
use Rattle.reporting.proofs.Segments.find.Goals as goal

pub tell_all-requires : goal.tell_all-requires
tell_all-requires c = let pre = c.requires in (pre.0.holds.enough, pre.0.ready.small, omega (arith, pre.0.ready.small))

pub returns : goal.returns
returns c =
    let pre = c.requires in
    let applied = c.apply_all in
    segments_found _ _ _ _ applied.new.applied _ _ applied.ensures.0 c.words_all.ensures c.size_all.ensures _ _ pre.0.holds c.tell_all.ensures
