-- A text that was counted: too long for a file, or fitted to the buffer.
use mathlib.Core.Path.{◌≡◌, ◌∙◌}
use Prim.Native.Nat.{ℕ, ◌≤◌, ◌<◌}
use native.Mathlib.Nat.{zero-add}
use mathlib.Core.List.{List}
use lib.ListN.{length}
use borrow.Author.Tests.{lt-ltb, le-ltb}
use Rattle.meaning.specs.declared.Answer.{Answer}
use Rattle.meaning.specs.Text.{Bytes}
use Rattle.meaning.specs.Model.{given, ◌then◌}
use Rattle.meaning.specs.Reading.{short}
use Rattle.meaning.specs.Report.{fitted}
use Rattle.meaning.specs.Operations.{answered, lent}
use Rattle.printing.specs.Wrote.{Wrote}
use Rattle.printing.specs.Fitted.{Fitted}

abbrev pub told : ℕ → ℕ → Answer
told n m = record { number = n; second = m }

-- the answer and the buffer afterwards are those of the text
abbrev pub Gives : (text old new : Bytes) → Answer → Type 0
Gives text old new r = (r ≡ answered length (short text then fitted (length old))) × (new ≡ lent old (short text then fitted (length old)))

module _ {x y text : List ℕ} {m : ℕ} (old : List ℕ) (count : Wrote x 0 text y m) where
  counted : m ≡ length text
  counted = count.moved ∙ zero-add (length text)

  pub too_long : 16384 < m → Gives text old old (told 1 0)
  too_long l = (rw (← counted, lt-ltb 16384 m l), rw (← counted, lt-ltb 16384 m l))

  module _ (fine : m ≤ 16384) where
    short_is : short text ≡ given text
    short_is = rw (← counted, le-ltb 16384 m fine)

    pub short_enough : {new : List ℕ} {r : Answer} → Fitted old text new r → Gives text old new r
    short_enough fits = (fits.answers ∙ rw short_is, fits.lends ∙ rw short_is)
