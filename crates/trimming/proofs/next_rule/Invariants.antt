-- `next_rule`: the last needless rule below the place looked at is the last of all. Assumes nothing.
use mathlib.Core.Path.{◌≡◌}
use lib.ListN.{length}
use Rattle.meaning.specs.Text.{last_below}
use Rattle.table.specs.Shape.{hit_of}
use Rattle.trimming.specs.Decided.{needless_at}
use Rattle.trimming.specs.Known.{Known}
use Rattle.trimming.proofs.next_rule.Given as goal

abbrev pub invariant-loop-i : goal.invariant-loop-i
invariant-loop-i l =
    let p = l.o.policy in
    let test = needless_at p.file.now p.places.now p.table.now p.shape.n (hit_of p.shape) p.shape.space l.initial.struck in
    (l.struck ≡ l.initial.struck) × (length l.hints ≡ length l.initial.hints) × (last_below test p.shape.n ≡ last_below test l.i) × Known p.file.now p.places.now p.table.now p.shape l.initial.struck l.hints
