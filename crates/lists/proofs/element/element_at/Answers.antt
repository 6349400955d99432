-- `element_at` meets its contract: each part of the element by its own function.
use native.Mathlib.Omega.{arith}
use Rattle.lists.proofs.Parts.{element_made}
use Rattle.lists.proofs.element.element_at.Goals as goal

pub overflow_cast-result : goal.overflow_cast-result
overflow_cast-result c = omega (arith, c.depth_at.ensures.0)

pub returns : goal.returns
returns c =
    element_made c.args.file.now c.args.table.now c.args.places.now c.args.i c.requires.0 c.requires.1 _ c.kind_at-kind.ensures
    _ c.depth_at.ensures.0 _ c.padded_name-name.ensures _ c.word_at-word.ensures _ c.masks_at-masks.ensures
    _ c.obligation_count.ensures.value _ c.obligation_at-first.ensures _ c.obligation_at-second.ensures
