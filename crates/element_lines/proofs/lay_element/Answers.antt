-- `lay_element` meets its contract: the element's row and places, and the tree with it.
use mathlib.Core.Path.{ap, ◌∙◌}
use native.Mathlib.Omega.{arith}
use lib.ListN.{length}
use Rattle.meaning.specs.Reading.{depth_of}
use Rattle.layout.specs.Nearest.{grown}
use Rattle.element_lines.proofs.TreeLines.{same_end}
use Rattle.element_lines.proofs.lay_element.Goals as goal

pub overflow_add-at-2 : goal.overflow_add-at-2
overflow_add-at-2 c = omega (arith, ap length c.name-name.ensures, c.requires.name_inside)

pub with_element-requires : goal.with_element-requires
with_element-requires c =
    let depth = c.depth_of-depth.ensures.value ∙ ap depth_of c.depth.ensures in
    (omega (arith, depth, c.requires.shallow), c.requires.few)

pub returns : goal.returns
returns c =
    let args = c.args in
    let depth = c.depth_of-depth.ensures.value ∙ ap depth_of c.depth.ensures in
    let laid = c.put_element.ensures in
    record {
      value = c.with_element.ensures ∙ ap (grown args.st.now.tree args.l.kind) depth;
      table_after = rw (laid.table_after, c.new-row.ensures, depth);
      places_after = laid.places_after ∙ same_end args.places.now args.st.now.tree.len args.st.now.at c.name-name.ensures;
    }
