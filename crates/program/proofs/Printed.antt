-- The report or the line `E`, from the answer and the buffer of the operation.
use mathlib.Core.Path.{◌≡◌, refl, sym, ap, ◌∙◌}
use Prim.Native.Nat.{ℕ, ◌≤◌, ◌<◌}
use native.Mathlib.Nat.{zero-add}
use native.Mathlib.Omega.{arith}
use mathlib.Core.List.{List, [], ◌∷◌, ◌++◌}
use lib.ListN.{length, drop, length-append}
use Rattle.meaning.specs.declared.Answer.{Answer}
use Rattle.meaning.specs.Text.{Bytes, bytes, tab, newline, line, decimal}
use Rattle.meaning.specs.Model.{Result, refused, given}
use Rattle.meaning.specs.Report.{report_file, printed, program}
use Rattle.meaning.specs.Operations.{answered, lent, report_answer, report_lent}
use Rattle.laws.proofs.Refusals.{Numbered, report_numbered}
use Rattle.printing.specs.declared.Sink.{Sink}
use Rattle.printing.specs.Wrote.{Wrote}
use Rattle.printing.specs.Puts.{Puts}
use Rattle.printing.proofs.Laws.{then, same_text, filled, line_next, at_start}
use Rattle.printing.proofs.Digits.{decimal_short}

-- what is printed lies in the buffer
inside : (text old new : Bytes) (r : ℕ) → r ≡ length text → new ≡ text ++ drop r old → r ≤ length new
inside text old new r size laid = omega (arith, ap length laid, length-append text (drop r old))

-- The operation's answer and buffer, where the buffer had 65,536 bytes
module _ (f old : Bytes) (room : length old ≡ 65536) (new : Bytes) (answer : Answer) (answers : answer ≡ report_answer f old) (lends : new ≡ report_lent f old) where
  answer_is : answer ≡ answered length (report_file 65536 f)
  answer_is = rw room at answers

  lent_is : new ≡ lent old (report_file 65536 f)
  lent_is = rw room at lends

  -- the report
  pub report_printed : answer.number ≡ 0 → (answer.second ≡ length (program f)) × (new ≡ program f ++ drop answer.second old) × (answer.second ≤ length new)
  unfolding program
  report_printed done = go (report_file 65536 f) refl answer_is lent_is (report_numbered 65536 f)
    where
      go : (x : Result Bytes) → report_file 65536 f ≡ x → answer ≡ answered length x → new ≡ lent old x → Numbered x → (answer.second ≡ length (printed (report_file 65536 f))) × (new ≡ printed (report_file 65536 f) ++ drop answer.second old) × (answer.second ≤ length new)
      go (refused n m) e a l some = absurd (omega (arith, ap (λ r. r.number) a, done, some))
      go (given t) e a l some =
          let size : answer.second ≡ length t = ap (λ r. r.second) a in
          let laid : new ≡ t ++ drop answer.second old = l ∙ ap (λ k. t ++ drop k old) (sym size) in
          rw e (size, laid, inside t old new answer.second size laid)

  -- the line `E`
  module _ {a b c d : Sink} (over : a.out.now ≡ new) (start : a.at ≡ 0) {z : List ℕ} (after : z ≡ d.out.now) (first : Puts a (bytes "E" ++ (tab ∷ [])) b) (next : Puts b (decimal answer.number ++ (tab ∷ [])) c) (third : Puts c (decimal answer.second ++ (newline ∷ [])) d) where
    text : Bytes
    text = line (bytes "E" ∷ decimal answer.number ∷ decimal answer.second ∷ [])

    text_written : Wrote new 0 text z d.at
    unfolding text
    text_written =
        rw (over, start) at (filled (same_text (ap (λ t. (bytes "E" ++ (tab ∷ [])) ++ t) (line_next (decimal answer.number) (decimal answer.second) []) ∙ line_next (bytes "E") (decimal answer.number) (decimal answer.second ∷ [])) (then first (then next third))) after)

    pub error_printed : (answer.number ≡ 0 → ⊥) → answer.number < 4294967296 → answer.second < 4294967296 → (d.at ≡ length (program f)) × (z ≡ program f ++ drop d.at old) × (d.at ≤ length z)
    unfolding program text
    error_printed refusal small second-small = go (report_file 65536 f) refl answer_is lent_is
      where
        few : d.at ≤ 24
        few = omega (arith, start, first.wrote.moved, next.wrote.moved, third.wrote.moved, length-append (decimal answer.number) (tab ∷ []), length-append (decimal answer.second) (newline ∷ []), decimal_short 9 answer.number (omega arith), decimal_short 9 answer.second (omega arith))

        go : (x : Result Bytes) → report_file 65536 f ≡ x → answer ≡ answered length x → new ≡ lent old x → (d.at ≡ length (printed (report_file 65536 f))) × (z ≡ printed (report_file 65536 f) ++ drop d.at old) × (d.at ≤ length z)
        go (given t) e a l = absurd (refusal (ap (λ x. x.number) a))
        go (refused n m) e a l =
            let size : d.at ≡ length text = text_written.moved ∙ zero-add (length text) in
            let laid = at_start text_written (omega (arith, size, few, ap length l, room)) in
            let same : text ≡ line (bytes "E" ∷ decimal n ∷ decimal m ∷ []) = λ i. line (bytes "E" ∷ decimal (a i).number ∷ decimal (a i).second ∷ []) in
            let whole : z ≡ text ++ drop d.at old = laid ∙ ap (λ k. text ++ drop k new) (sym size) ∙ ap (λ x. text ++ drop d.at x) l in
            rw e (size ∙ ap length same, whole ∙ ap (λ t. t ++ drop d.at old) same, inside text old z d.at size whole)
