-- The operations and the program: answers, lent memory, output.
use Rattle.std.specs.Prelude.{◌≡◌, ◌≢◌, ℕ, ◌≤◌, ◌<◌, cond, List, [], ◌∷◌, map, length, take, drop}
use Rattle.meaning.specs.Text.{Bytes}
use Rattle.meaning.specs.Model.{Decision, not_applicable, indeterminate, Element, Policy, sizes, Result, refused, given, ◌then◌}
use Rattle.meaning.specs.Reading.{read}
use Rattle.meaning.specs.Deciding.{Request, number_of, request_line, decision_number, Outcome, outcome}
use Rattle.meaning.specs.Trimming.{trimmed}
use Rattle.meaning.specs.Report.{report, program}
use Rattle.meaning.specs.ValuePairs.{pairs_named}
use Rattle.meaning.specs.RuleByRule.{next_name, strike_named}
use Rattle.meaning.specs.HeldState.{Step, step_on}
use Rattle.meaning.specs.Accepting.{judged}
use Rattle.meaning.specs.Joining.{joined}
use Rattle.meaning.specs.Writing.{write_file}
use Rattle.meaning.specs.Operations.{Answer, decide_answer, decide_lent, trim_answer, trim_lent, report_answer, report_lent, value_pairs_answer, value_pairs_lent, next_rule_answer, next_rule_lent, strike_answer, strike_lent, step_answer, step_lent, accept_answer, join_answer, join_lent, read_answer, read_lent, write_answer, write_lent}
use Rattle.meaning.specs.Claims.ReportLines.{error_line, field_lines}

-- An operation that writes to lent memory, by what it is to write there: a refusal, with its numbers, leaves no trace, and so
-- does a result for which the memory is too short; any other stands at the start, and what is behind it stays
pub record Writes {A : Type 0} (too_short : ℕ) (wanted : Result (List A)) (answer : Answer) (before after : List A) : Type 0 where
  pub refused_so : (n m : ℕ) → wanted ≡ refused n m → (answer ≡ record { number = n; second = m }) × (after ≡ before)
  pub short_so : (xs : List A) → wanted ≡ given xs → length before < length xs → (answer ≡ record { number = too_short; second = length xs }) × (after ≡ before)
  pub written_so : (xs : List A) → wanted ≡ given xs → length xs ≤ length before
      → (answer ≡ record { number = 0; second = length xs }) × (take (length xs) after ≡ xs) × (drop (length xs) after ≡ drop (length xs) before)
  pub no_trace : answer.number ≢ 0 → after ≡ before
  pub done : answer.number ≡ 0 → (xs : List A) × (wanted ≡ given xs) × (length xs ≤ length before)

-- the eleven operations; a decision's number is its place in this list; a file that is written has at most 16,384 bytes
pub record Operations : Type 0 where
  pub decision_numbers : map decision_number (Decision.Permit ∷ Decision.Deny ∷ not_applicable ∷ indeterminate ∷ []) ≡ 0 ∷ 1 ∷ 2 ∷ 3 ∷ []
  pub decides_no_file : (f r buffer : Bytes) (n m : ℕ) → read f ≡ refused n m → (decide_answer f r buffer ≡ record { number = n; second = m; length = 0 }) × (decide_lent f r buffer ≡ buffer)
  pub decides_no_request : (f r buffer : Bytes) (p : Policy) (n m : ℕ) → read f ≡ given p → request_line p.attributes r ≡ refused n m
      → (decide_answer f r buffer ≡ record { number = n; second = m; length = 0 }) × (decide_lent f r buffer ≡ buffer)
  pub decides_short : (f r buffer : Bytes) (p : Policy) (q : Request) → read f ≡ given p → request_line p.attributes r ≡ given q
      → (o : Outcome) → o ≡ outcome p (number_of (sizes p.attributes) q) → length buffer < length o.obligations
      → (decide_answer f r buffer ≡ record { number = 11; second = length o.obligations; length = 0 }) × (decide_lent f r buffer ≡ buffer)
  pub decides : (f r buffer : Bytes) (p : Policy) (q : Request) → read f ≡ given p → request_line p.attributes r ≡ given q
      → (o : Outcome) → o ≡ outcome p (number_of (sizes p.attributes) q) → length o.obligations ≤ length buffer
      → (decide_answer f r buffer ≡ record { number = 0; second = decision_number o.decision; length = length o.obligations })
      × (take (length o.obligations) (decide_lent f r buffer) ≡ o.obligations) × (drop (length o.obligations) (decide_lent f r buffer) ≡ drop (length o.obligations) buffer)
  pub trims : (f buffer : Bytes) → Writes 11 (read f then λ p. given (trimmed f).text) (trim_answer f buffer) buffer (trim_lent f buffer)
  pub reports : (f buffer : Bytes) → Writes 11 (read f then λ p. given (report f p)) (report_answer f buffer) buffer (report_lent f buffer)
  pub tells_pairs : (f name buffer : Bytes) → Writes 11 (read f then λ p. pairs_named p name) (value_pairs_answer f name buffer) buffer (value_pairs_lent f name buffer)
  pub shows_next : (f buffer : Bytes) → Writes 11 (read f then λ p. given (next_name f)) (next_rule_answer f buffer) buffer (next_rule_lent f buffer)
  pub strikes : (f rule buffer : Bytes) → Writes 11 (read f then λ p. strike_named f rule) (strike_answer f rule buffer) buffer (strike_lent f rule buffer)
  pub steps_no_file : (text : Bytes) (n m : ℕ) → read text ≡ refused n m → (step_answer text ≡ record { number = n; second = m; struck = 0 }) × (step_lent text ≡ text)
  pub steps : (text : Bytes) (p : Policy) → read text ≡ given p → (s : Step) → s ≡ step_on text
      → (step_answer text ≡ record { number = 0; second = length s.text; struck = cond s.struck 1 0 })
      × (length s.text ≤ length text) × (take (length s.text) (step_lent text) ≡ s.text) × (drop (length s.text) (step_lent text) ≡ drop (length s.text) text)
  pub accepts_no_original : (f g : Bytes) (n m : ℕ) → read f ≡ refused n m → accept_answer f g ≡ record { number = n; second = m }
  pub accepts_no_proposal : (f g : Bytes) (p : Policy) (n m : ℕ) → read f ≡ given p → read g ≡ refused n m → accept_answer f g ≡ record { number = n; second = m }
  pub accepts_not : (f g : Bytes) (p q : Policy) (n m : ℕ) → read f ≡ given p → read g ≡ given q → judged f p g q ≡ refused n m → accept_answer f g ≡ record { number = n; second = m }
  pub accepts : (f g : Bytes) (p q : Policy) (t : Bytes) → read f ≡ given p → read g ≡ given q → judged f p g q ≡ given t → accept_answer f g ≡ record { number = 0; second = 0 }
  pub joins : (f g w buffer : Bytes) → Writes 11 (read f then λ p. read g then λ q. joined w f p.attributes g q.attributes) (join_answer f g w buffer) buffer (join_lent f g w buffer)
  pub reads : (f : Bytes) (list : List Element) → Writes 12 (read f then λ p. given p.elements) (read_answer f list) list (read_lent f list)
  pub writes : (header : Bytes) (es : List Element) (buffer : Bytes) → Writes 11 (write_file 16384 header es) (write_answer header es buffer) buffer (write_lent header es buffer)

-- What the program prints: the report, built in a 65,536-byte buffer, or the line `E`, number and second number
pub record Prints : Type 0 where
  pub refusal : (f : Bytes) (n m : ℕ) → read f ≡ refused n m → program f ≡ error_line n m
  pub too_long : (f : Bytes) (p : Policy) → read f ≡ given p → 65536 < length (report f p) → program f ≡ error_line 11 (length (report f p))
  pub the_report : (f : Bytes) (p : Policy) → read f ≡ given p → length (report f p) ≤ 65536 → program f ≡ report f p
  -- a text is settled by its lines' fields
  pub by_fields : (t u : Bytes) → field_lines t ≡ field_lines u → t ≡ u
