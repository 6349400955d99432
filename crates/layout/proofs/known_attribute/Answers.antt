-- `known_attribute`: a name is known if there is a place for it.
use mathlib.Core.Path.{ap, ◌∙◌}
use Rattle.std.specs.Prelude.{is_some}
use Rattle.meaning.specs.Joining.{declared, place_in}
use Rattle.layout.specs.Places.{attributes_of}
use Rattle.layout.proofs.Names.{place_told}
use Rattle.layout.proofs.known_attribute.Goals as goal

pub returns : goal.returns
returns c =
    let attrs = attributes_of c.args.file.now c.args.a.now in
    c.is_some.ensures ∙ ap is_some c.attribute_named.ensures.value ∙ place_told (declared attrs c.args.name.now) (place_in attrs c.args.name.now)
