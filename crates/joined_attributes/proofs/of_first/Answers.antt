-- `of_first`: the loop keeps the list of the places so far. Assumes nothing.
use mathlib.Core.Path.{◌≡◌, ap, ◌∙◌}
use native.Mathlib.Omega.{arith}
use Rattle.meaning.specs.Joining.{place_in}
use Rattle.layout.specs.Places.{attributes_from, attributes_of}
use Rattle.joined_attributes.specs.Placing.{listed, places_in}
use Rattle.joined_attributes.proofs.Listing.{none_listed, attribute_listed, places_count}
use Rattle.joined_attributes.proofs.of_first.Goals as goal

pub loop-i-init : goal.loop-i-init
loop-i-init c = none_listed c.args.first.now.file.now c.args.first.now.attributes (attributes_of c.args.own.now.file.now c.args.own.now.attributes)

pub name-requires : goal.name-requires
name-requires c =
    (omega (arith, c.requires.0.few), c.requires.0.each c.loop-i.i (omega arith))

pub place_in-requires : goal.place_in-requires
place_in-requires c = c.requires.1

pub put_place-requires : goal.put_place-requires
put_place-requires c =
    let l = c.loop-i in
    omega (arith, c.requires.0.few, ap (λ p. p.len) l.invariant, places_count c.args.first.now.file.now c.args.first.now.attributes (attributes_of c.args.own.now.file.now c.args.own.now.attributes) l.i)

pub loop-i-preserved : goal.loop-i-preserved
loop-i-preserved c =
    let l = c.loop-i in
    let own = attributes_of c.args.own.now.file.now c.args.own.now.attributes in
    let place = c.place_in.ensures ∙ ap (place_in own) c.name.ensures in
    c.put_place.ensures ∙ attribute_listed c.args.first.now.file.now c.args.first.now.attributes own (omega (arith, c.requires.0.few)) place l.invariant

pub returns : goal.returns
returns c =
    let l = c.loop-i in
    let all : l.i ≡ c.args.first.now.attributes.len = omega arith in
    l.invariant ∙ ap (λ n. listed (places_in (attributes_of c.args.own.now.file.now c.args.own.now.attributes) (attributes_from c.args.first.now.file.now c.args.first.now.attributes 0 n))) all
