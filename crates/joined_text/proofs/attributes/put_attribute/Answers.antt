-- `put_attribute`: the letter, the name and the values, each with what ends it. Assumes nothing.
use mathlib.Core.Path.{ap}
use mathlib.Core.List.{[], ◌∷◌}
use native.Mathlib.Omega.{arith}
use lib.ListN.{length, length-append}
use Rattle.meaning.specs.Text.{tab}
use Rattle.joined_text.proofs.Header.{name_length, values_length, attribute_put}
use Rattle.joined_text.proofs.attributes.put_attribute.Goals as goal

pub put_field-requires : goal.put_field-requires
put_field-requires c =
    let named = name_length c.args.part.now.file.now c.args.part.now.attributes c.args.i c.requires.1 in
    omega (arith, c.requires, c.requires.1.line, c.requires.1.inside, named, ap length c.name.ensures, c.put_letter.ensures.1)

pub put_field-requires-2 : goal.put_field-requires-2
put_field-requires-2 c =
    let named = name_length c.args.part.now.file.now c.args.part.now.attributes c.args.i c.requires.1 in
    let values = values_length c.args.part.now.file.now c.args.part.now.attributes c.args.i c.requires.1 in
    let name = c.name in
    let letter = c.put_letter.ensures in
    let put = c.put_field.ensures in
    omega (arith, c.requires, c.requires.1.line, c.requires.1.inside, named, values, ap length name.ensures, ap length c.values.ensures, letter.1, put.wrote.moved, length-append name.result.now (tab ∷ []))

pub returns : goal.returns
returns c =
    attribute_put c.args.part.now.file.now c.args.part.now.attributes c.args.i c.requires.1 c.requires.2 c.put_letter.ensures c.name.ensures c.put_field.ensures c.values.ensures c.put_field-2.ensures
