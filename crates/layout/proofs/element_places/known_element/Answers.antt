-- `known_element` meets its contract: a name is known if an element that has it is found.
use mathlib.Core.Path.{ap, ◌∙◌}
use Rattle.std.specs.Prelude.{is_some}
use Rattle.layout.proofs.Names.{among_named}
use Rattle.layout.proofs.element_places.known_element.Goals as goal

pub returns : goal.returns
returns c =
    let a = c.args in
    c.is_some.ensures ∙ ap is_some c.element_named.ensures ∙ among_named a.file.now a.name.now a.places.now a.n
