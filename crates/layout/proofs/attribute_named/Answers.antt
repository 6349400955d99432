-- `attribute_named` meets its contract: the search goes on with the attributes from `i` on.
use mathlib.Core.Path.{sym, ◌∙◌}
use native.Mathlib.Omega.{arith}
use Rattle.layout.proofs.Names.{search_starts, search_ends, search_finds, search_passes}
use Rattle.layout.proofs.attribute_named.Goals as goal

pub loop-i-init : goal.loop-i-init
loop-i-init c = search_starts c.args.file.now c.args.a.now c.args.name.now

pub has_name-requires : goal.has_name-requires
has_name-requires c = (omega (arith, c.requires.few), c.requires.each c.loop-i.i (omega arith))

pub returns-then-has_name : goal.returns-then-has_name
returns-then-has_name c =
    let a = c.args in
    record { value = search_finds a.file.now a.a.now a.name.now c.loop-i.invariant (omega arith) (sym c.has_name.ensures ∙ c.if-has_name.true); within = omega arith }

pub loop-i-preserved : goal.loop-i-preserved
loop-i-preserved c =
    let a = c.args in
    search_passes a.file.now a.a.now a.name.now c.loop-i.invariant (omega arith) (sym c.has_name.ensures ∙ c.if-has_name.false)

pub returns : goal.returns
returns c =
    let a = c.args in
    record { value = search_ends a.file.now a.a.now a.name.now c.loop-i.invariant (omega arith); within = tt }
