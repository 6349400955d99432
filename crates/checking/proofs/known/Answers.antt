-- `known` meets its contract. The loop keeps that no element before has the name.
use mathlib.Core.Path.{◌≡◌, sym, ◌∙◌}
use Prim.Native.Nat.{◌+◌}
use native.Mathlib.Omega.{arith}
use lib.ListN.{length}
use Rattle.meaning.specs.Model.{name_of}
use Rattle.checking.proofs.Names.{name_none, name_hit, name_miss, name_among}
use Rattle.checking.proofs.known.Goals as goal

pub loop-other-init : goal.loop-other-init
loop-other-init c = name_none _ _

pub same_stored-requires : goal.same_stored-requires
same_stored-requires c = (c.requires.0, c.requires.1 c.loop-other.other-index (omega arith))

pub returns-then-same_stored : goal.returns-then-same_stored
returns-then-same_stored c =
    let a = c.args in
    sym (name_among a.before.now (name_of a.e) (c.loop-other.other-index + 1) _ (omega arith) (name_hit a.before.now (name_of a.e) c.loop-other.other-index (sym c.same_stored.ensures ∙ c.if-same_stored.true)))

pub loop-other-preserved : goal.loop-other-preserved
loop-other-preserved c =
    let a = c.args in
    name_miss a.before.now (name_of a.e) c.loop-other.other-index (sym c.same_stored.ensures ∙ c.if-same_stored.false) c.loop-other.invariant

pub returns : goal.returns
returns c =
    let end : length c.args.before.now ≡ c.loop-other.other-index = omega arith in sym (rw end c.loop-other.invariant)
