-- The papers' number of each refusal, and of an outcome that may be one.
use Rattle.std.specs.Prelude.{ℕ, Result, Ok, Err}
use Rattle.meaning.specs.declared.Answer.{Answer}
use Rattle.refusals.specs.declared.Refusal.{Refusal}
use Rattle.refusals.specs.declared.Refusal.TheVariants.{LongFile, BadLine, BadName, KnownName, TooMany, Misplaced, BadWord, BadTarget, NoElement, BadRequest, ShortBuffer, ShortList, NoSuchAttribute, NoObligation, NoSuchRule, OtherLine, OtherOutcome, NeedlessRule, OtherAttribute}
use Rattle.refusals.specs.declared.Refused.{Refused}

abbrev pub number_of : Refusal → ℕ
number_of LongFile = 1
number_of BadLine = 2
number_of BadName = 3
number_of KnownName = 4
number_of TooMany = 5
number_of Misplaced = 6
number_of BadWord = 7
number_of BadTarget = 8
number_of NoElement = 9
number_of BadRequest = 10
number_of ShortBuffer = 11
number_of ShortList = 12
number_of NoSuchAttribute = 13
number_of NoObligation = 14
number_of NoSuchRule = 15
number_of OtherLine = 16
number_of OtherOutcome = 17
number_of NeedlessRule = 18
number_of OtherAttribute = 19

-- the number of a refusal, or 0 where there is none
abbrev pub number_in : {A : Type 0} → Result A Refusal → ℕ
number_in (Ok _) = 0
number_in (Err refusal) = number_of refusal

-- a refusal as an operation answers it
abbrev pub answer_of : Refused → Answer
answer_of refused = record { number = number_of refused.why; second = refused.second }
