-- `spread`: by values or by sets, as the attribute has them. Assumes nothing.
use mathlib.Core.Path.{◌≡◌}
use mathlib.Core.Bool.{true, false}
use Rattle.matching.proofs.spread.Goals as goal

pub returns-then-several : goal.returns-then-several
returns-then-several c =
    let sets : c.args.several ≡ true = c.if-several.true in
    rw sets c.spread_sets.ensures

pub spread_sets-requires : goal.spread_sets-requires
spread_sets-requires c =
    let p = c.requires in
    (p.0, p.1, p.2, p.3, p.4, p.5 c.if-several.true)

pub returns : goal.returns
returns c =
    let values : c.args.several ≡ false = c.if-several.false in
    rw values c.spread_values.ensures
