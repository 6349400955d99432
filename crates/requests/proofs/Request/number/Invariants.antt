-- `Request::number`: the values passed weigh, with those to come, the whole number. Assumes nothing.
use mathlib.Core.Path.{◌≡◌}
use lib.ListN.{take}
use Rattle.meaning.specs.Deciding.{number_of}
use Rattle.requests.proofs.Laws.{weighed}
use Rattle.requests.proofs.Request.number.Given as goal

abbrev pub invariant-loop-i : goal.invariant-loop-i
invariant-loop-i l = weighed l.len l.i l.total l.counts l.values ≡ number_of (take l.len l.counts) (take l.len l.values)
