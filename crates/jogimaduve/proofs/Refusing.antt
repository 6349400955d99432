-- The answer and the buffer where a file is refused, of every operation that reads it first and writes a text; and where a step's text or
-- an original is.
use mathlib.Core.Path.{◌≡◌, ◌∙◌}
use Prim.Native.Nat.{ℕ}
use mathlib.Core.List.{List}
use lib.ListN.{length}
use Rattle.std.specs.Prelude.{Err}
use Rattle.meaning.specs.declared.Answer.{Answer}
use Rattle.meaning.specs.Text.{Bytes}
use Rattle.meaning.specs.Model.{Policy, Result, refused, ◌then◌}
use Rattle.meaning.specs.Reading.{read}
use Rattle.meaning.specs.HeldState.{step_file}
use Rattle.meaning.specs.Accepting.{accept_file}
use Rattle.meaning.specs.Operations.{answered, lent, step_answer, step_lent, accept_answer}
use Rattle.refusals.specs.declared.Refused.{Refused}
use Rattle.refusals.specs.Numbers.{answer_of}
use Rattle.table.specs.declared.Row.{Row}
use Rattle.layout.specs.declared.ElementPlaces.{ElementPlaces}
use Rattle.reader.specs.Told.{ReadIs}
use Rattle.reader.proofs.FileRead.{file_refused}
use Rattle.jogimaduve.specs.Told.{told}

-- an operation that answers what reading its file refused
pub refusal : {f : Bytes} {table₀ : List Row} {places₀ : List ElementPlaces} {table : List Row} {places : List ElementPlaces} {x : Refused} → ReadIs f table₀ places₀ table places (Err x) → {a : Answer} → a ≡ answer_of x
    → (out : Bytes) (text : Policy → Result Bytes) → (a ≡ answered length (read f then text)) × (out ≡ lent out (read f then text))
refusal is_read is out text = let h = file_refused is_read in (is ∙ rw h, rw h)

module _ (f : Bytes) {n m : ℕ} (h : read f ≡ refused n m) where
  pub step_refused : (record { number = n; second = m; struck = 0 } ≡ step_answer f) × (f ≡ step_lent f)
  unfolding step_file
  step_refused = (rw h, rw h)

  pub original_refused : (proposal : Bytes) → told n m ≡ accept_answer f proposal
  unfolding accept_file
  original_refused proposal = rw h
