-- `strike_rules`: what is to come completes what striking from the start gives. Assumes nothing.
use mathlib.Core.Path.{◌≡◌}
use lib.ListN.{length}
use Rattle.trials.specs.Trial.{Laid}
use Rattle.trimming.specs.Known.{Known}
use Rattle.trimming.proofs.Strikes.{Strikes}
use Rattle.trimming.proofs.strike_rules.Given as goal

abbrev pub invariant-loop-count : goal.invariant-loop-count
invariant-loop-count l =
    let p = l.o.policy in
    (length l.struck ≡ length l.initial.struck) × (length l.hints ≡ length l.initial.hints) × (length l.order ≡ length l.initial.order)
    × Laid p.file.now p.places.now p.table.now l.struck l.o.hits.now l.o.outcomes.now p.shape × Strikes p.file.now p.places.now p.table.now p.shape l.initial.struck l.initial.order l.struck l.order l.count × Known p.file.now p.places.now p.table.now p.shape l.struck l.hints
