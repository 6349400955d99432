-- `places_in`: the loop keeps the list of the places so far: of the first file's attributes, and of those alone behind them.
-- Assumes nothing.
use mathlib.Core.Path.{◌≡◌, sym, ap, ◌∙◌}
use native.Mathlib.Omega.{arith}
use Rattle.meaning.specs.Joining.{declared, both, place_in}
use Rattle.layout.specs.Places.{attributes_from, attributes_of}
use Rattle.layout.proofs.Laws.{attributes_length}
use Rattle.joined_attributes.specs.Placing.{listed, places_in}
use Rattle.joined_attributes.proofs.Listing.{first_listed, both_count, known_passed, alone_listed}
use Rattle.joined_attributes.proofs.places_in.Goals as goal

pub loop-j-init : goal.loop-j-init
loop-j-init c =
    first_listed c.args.second.now.file.now c.args.second.now.attributes (attributes_of c.args.own.now.file.now c.args.own.now.attributes) (attributes_of c.args.first.now.file.now c.args.first.now.attributes) c.of_first-p.ensures

pub name-name-requires : goal.name-name-requires
name-name-requires c =
    (omega (arith, c.requires.1.few), c.requires.1.each c.loop-j.j (omega arith))

pub loop-j-preserved-then-known_attribute : goal.loop-j-preserved-then-known_attribute
loop-j-preserved-then-known_attribute c =
    let l = c.loop-j in
    let first = attributes_of c.args.first.now.file.now c.args.first.now.attributes in
    let known = sym (c.known_attribute.ensures ∙ ap (declared first) c.name-name.ensures) ∙ c.if-known_attribute.true in
    known_passed c.args.second.now.file.now c.args.second.now.attributes (attributes_of c.args.own.now.file.now c.args.own.now.attributes) first l.j known l.invariant

pub put_place-requires : goal.put_place-requires
put_place-requires c =
    let l = c.loop-j in
    omega (
      arith,
      c.requires.0.few,
      c.requires.1.few,
      ap (λ p. p.len) l.invariant,
      attributes_length c.args.first.now.file.now c.args.first.now.attributes,
      both_count c.args.second.now.file.now c.args.second.now.attributes (attributes_of c.args.own.now.file.now c.args.own.now.attributes) (attributes_of c.args.first.now.file.now c.args.first.now.attributes) l.j,
    )

pub loop-j-preserved : goal.loop-j-preserved
loop-j-preserved c =
    let l = c.loop-j in
    let name = c.name-name.ensures in
    let first = attributes_of c.args.first.now.file.now c.args.first.now.attributes in
    let own = attributes_of c.args.own.now.file.now c.args.own.now.attributes in
    let alone = sym (c.known_attribute.ensures ∙ ap (declared first) name) ∙ c.if-known_attribute.false in
    let place = c.place_in.ensures ∙ ap (place_in own) name in
    c.put_place.ensures ∙ alone_listed c.args.second.now.file.now c.args.second.now.attributes own first l.j (omega (arith, c.requires.0.few, c.requires.1.few, attributes_length c.args.first.now.file.now c.args.first.now.attributes)) alone place l.invariant

pub returns : goal.returns
returns c =
    let l = c.loop-j in
    let first = attributes_of c.args.first.now.file.now c.args.first.now.attributes in
    let own = attributes_of c.args.own.now.file.now c.args.own.now.attributes in
    let all : l.j ≡ c.args.second.now.attributes.len = omega arith in record { value = l.invariant ∙ ap (λ n. listed (places_in own (both first (attributes_from c.args.second.now.file.now c.args.second.now.attributes 0 n)))) all; within = omega (arith, c.requires.0.few, c.requires.1.few, ap (λ p. p.len) l.invariant, attributes_length c.args.first.now.file.now c.args.first.now.attributes, both_count c.args.second.now.file.now c.args.second.now.attributes own first l.j) }

pub of_first-p-requires : goal.of_first-p-requires
of_first-p-requires c = (c.requires.0, c.requires.2)

pub known_attribute-requires : goal.known_attribute-requires
known_attribute-requires c = c.requires.0

pub place_in-requires : goal.place_in-requires
place_in-requires c = c.requires.2
