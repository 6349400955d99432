-- `Request::matches`: the attributes looked at so far match their fields. Assumes nothing.
use mathlib.Core.Path.{◌≡◌}
use lib.ListN.{take}
use Rattle.meaning.specs.Deciding.{within}
use Rattle.requests.proofs.Targets.{within_from}
use Rattle.requests.proofs.Request.matches.Given as goal

abbrev pub invariant-loop-i : goal.invariant-loop-i
invariant-loop-i l = within (take l.len l.several) l.masks (take l.len l.values) ≡ within_from l.len l.i l.several l.masks l.values
