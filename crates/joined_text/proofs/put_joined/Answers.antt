-- `put_joined`: attribute lines, the set's line, and the lines of both files. Assumes nothing.
use native.Mathlib.Omega.{arith}
use Rattle.joined_text.proofs.Joined.{whole_text}
use Rattle.joined_text.proofs.put_joined.Goals as goal

pub put_set-requires : goal.put_set-requires
put_set-requires c =
    (c.requires.2, c.places_in-p.ensures.within, omega (arith, c.put_alone.ensures.1, c.put_attributes.ensures.1, c.requires.3))

pub put_tree-requires : goal.put_tree-requires
put_tree-requires c =
    (c.requires.0.behind, c.places_in-p.ensures.within, omega (arith, c.put_set.ensures.1, c.put_alone.ensures.1, c.put_attributes.ensures.1, c.requires.3))

pub put_tree-requires-2 : goal.put_tree-requires-2
put_tree-requires-2 c =
    (c.requires.1.behind, c.places_in-q.ensures.within, omega (arith, c.put_tree.ensures.1, c.put_set.ensures.1, c.put_alone.ensures.1, c.put_attributes.ensures.1, c.requires.3))

pub returns : goal.returns
returns c =
    whole_text c.args.word.now c.args.first.now.file.now c.args.second.now.file.now c.args.first.now.attributes c.args.second.now.attributes c.args.first.now.from c.args.second.now.from c.requires.0 c.requires.1
    c.places_in-p.ensures.value
    c.places_in-q.ensures.value
    c.put_attributes.ensures.0
    c.put_alone.ensures.0
    c.put_set.ensures.0
    c.put_tree.ensures.0
    c.put_tree-2.ensures.0

pub places_in-p-requires : goal.places_in-p-requires
places_in-p-requires c = (c.requires.0.headed.standing, c.requires.1.headed.standing, c.requires.0.headed.standing)

pub places_in-q-requires : goal.places_in-q-requires
places_in-q-requires c = (c.requires.0.headed.standing, c.requires.1.headed.standing, c.requires.1.headed.standing)

pub put_attributes-requires : goal.put_attributes-requires
put_attributes-requires c = (c.requires.0.headed, c.requires.3)

pub put_alone-requires : goal.put_alone-requires
put_alone-requires c = (c.requires.0.headed, c.requires.1.headed, omega (arith, c.put_attributes.ensures.1, c.requires.3))
