use mathlib.Core.Path.{refl}
use native.Mathlib.Omega.{arith}
use Rattle.reader.proofs.FileRead.{file_read, sizable}
use Rattle.jogimaduve.proofs.Shaping.{ready}
use Rattle.vectors.proofs.stepping.stepped.Goals as goal

pub shape-shape-requires : goal.shape-shape-requires
shape-shape-requires c = sizable c.in-Ok.ensures

pub step_all-requires : goal.step_all-requires
step_all-requires c =
    let (p, h, holds) = file_read c.in-Ok.ensures in
    ready _ _ _ _ p h holds _ c.shape-shape.ensures _ (omega arith) refl
