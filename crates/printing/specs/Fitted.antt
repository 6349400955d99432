-- A text for a lent buffer: counted first, and written where it fits.
use Rattle.std.specs.Prelude.{◌≡◌, ℕ, cond, ltb, length}
use Rattle.meaning.specs.declared.Answer.{Answer}
use Rattle.meaning.specs.Text.{Bytes}
use Rattle.meaning.specs.Report.{fitted}
use Rattle.meaning.specs.Operations.{answered, lent}

-- how many bytes of a buffer a text of so many gets: all, or none where it does not fit
abbrev pub lendable : (needed room : ℕ) → ℕ
lendable needed room = cond (ltb room needed) 0 room

-- the answer for a text of so many bytes, and a buffer that has so many
abbrev pub text_told : (needed room : ℕ) → Answer
text_told needed room = record { number = cond (ltb room needed) 11 0; second = needed }

-- r is the answer for the text, and new what the buffer that was old holds afterwards
pub record Fitted (old text new : Bytes) (r : Answer) : Type 0 where
  pub answers : r ≡ answered length (fitted (length old) text)
  pub lends : new ≡ lent old (fitted (length old) text)
