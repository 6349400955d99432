-- The numbers of refusals begin at 1: 0 is none of them.
use Prim.Native.Nat.{◌≤◌}
use mathlib.Core.Path.{◌≡◌}
use lib.Dec.{lit≤}
use native.Mathlib.Omega.{arith}
use Rattle.refusals.specs.Numbers.{number_of}
use Rattle.refusals.specs.declared.Refusal.{Refusal}
use Rattle.refusals.specs.declared.Refusal.TheVariants.{LongFile, BadLine, BadName, KnownName, TooMany, Misplaced, BadWord, BadTarget, NoElement, BadRequest, ShortBuffer, ShortList, NoSuchAttribute, NoObligation, NoSuchRule, OtherLine, OtherOutcome, NeedlessRule, OtherAttribute}

pub from_one : (why : Refusal) → 1 ≤ number_of why
from_one LongFile = lit≤ tt
from_one BadLine = lit≤ tt
from_one BadName = lit≤ tt
from_one KnownName = lit≤ tt
from_one TooMany = lit≤ tt
from_one Misplaced = lit≤ tt
from_one BadWord = lit≤ tt
from_one BadTarget = lit≤ tt
from_one NoElement = lit≤ tt
from_one BadRequest = lit≤ tt
from_one ShortBuffer = lit≤ tt
from_one ShortList = lit≤ tt
from_one NoSuchAttribute = lit≤ tt
from_one NoObligation = lit≤ tt
from_one NoSuchRule = lit≤ tt
from_one OtherLine = lit≤ tt
from_one OtherOutcome = lit≤ tt
from_one NeedlessRule = lit≤ tt
from_one OtherAttribute = lit≤ tt

-- A refusal is some number
pub not_zero : (why : Refusal) → number_of why ≡ 0 → ⊥
not_zero why z = omega (arith, from_one why, z)
