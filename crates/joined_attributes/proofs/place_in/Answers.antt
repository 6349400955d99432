-- `place_in`: where the name is not declared, the count.
use mathlib.Core.Path.{ap₂, sym, ◌∙◌}
use Rattle.std.specs.Option.{unwrap_or}
use Rattle.layout.specs.Places.{attributes_of}
use Rattle.layout.proofs.Laws.{attributes_length}
use Rattle.joined_attributes.proofs.Listing.{place_or_count}
use Rattle.joined_attributes.proofs.place_in.Goals as goal

pub returns : goal.returns
returns c =
    let attrs = attributes_of c.args.own.now.file.now c.args.own.now.attributes in
    c.unwrap_or.ensures ∙ ap₂ unwrap_or c.attribute_named.ensures.value (sym (attributes_length c.args.own.now.file.now c.args.own.now.attributes)) ∙ place_or_count attrs c.args.name.now
