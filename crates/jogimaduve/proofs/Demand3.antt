-- Demand 3 of the operations, from their contracts alone: what `jogimaduve_trim` and `jogimaduve_report` wrote of a file, and what
-- `jogimaduve_decide` answers and writes on it.
use mathlib.Core.Path.{◌≡◌, sym, ap, ap₂, ◌∙◌, subst}
use mathlib.Core.Logic.{◌≢◌}
use Prim.Native.Nat.{ℕ, ◌+◌, ◌≤◌, ◌<◌}
use native.Mathlib.Omega.{arith}
use mathlib.Core.Bool.{true}
use mathlib.Core.List.{List}
use lib.ListN.{length, take, drop}
use lib.Seq.{take-append_seam}
use borrow.Author.Tests.{le-ltb}
use Rattle.meaning.specs.Text.{Bytes, keep}
use Rattle.meaning.specs.Model.{Policy, sizes, space, Result, given, ◌then◌}
use Rattle.meaning.specs.Reading.{read}
use Rattle.meaning.specs.Deciding.{request_of, Outcome, outcome, decide_file}
use Rattle.meaning.specs.Trimming.{lines, is_rule_line, strike, Trimmed, trimmed}
use Rattle.meaning.specs.Report.{report}
use Rattle.meaning.specs.declared.Decided.{Decided}
use Rattle.meaning.specs.Operations.{lent, decided_by}
use Rattle.meaning.specs.Claims.PolicyFile.{WellFormed}
use Rattle.meaning.specs.Claims.Requests.{request_text}
use Rattle.meaning.specs.Claims.Trimming.{Trims, FirstChange, stays, Reported}
use Rattle.deciding.specs.Told.{outcome_for}
use Rattle.laws.proofs.Outcomes.{same_number}
use Rattle.laws.proofs.Reading.{given_given, step_then}
use Rattle.laws.proofs.Striking.{strike_read}
use Rattle.laws.proofs.WellFormed.{well_formed}
use Rattle.laws.proofs.Bounds.{bounded}
use Rattle.laws.proofs.RequestLines.{numbered}
use Rattle.laws.proofs.Demand3.{trims_soundly}
use Rattle.laws.proofs.Operations.{gave}
use Rattle.jogimaduve.proofs.Operate.{Operate, written, trims, reports}

-- the line of the request of a number
abbrev pub line_of : Policy → ℕ → Bytes
line_of p n = request_text p.attributes (request_of (sizes p.attributes) n)

-- what is answered to a request line, and what the buffer holds afterwards
abbrev pub told : Operate → (file request buffer : Bytes) → Decided × Bytes
told o f r b = (o.decide f r b, o.decide_after f r b)

-- Request n is the first that needs line k of a text: in every buffer with room enough it is told another decision, or other
-- obligations, without that line, and no earlier one is in any buffer
pub record NeededFirst (o : Operate) (p : Policy) (t : Bytes) (k n : ℕ) : Type 0 where
  pub in_space : n < space p.attributes
  pub room : ℕ
  pub decided : (b : Bytes) → room ≤ length b → ((o.decide t (line_of p n) b).number ≡ 0) × ((o.decide (strike k t) (line_of p n) b).number ≡ 0)
  pub differs : (b : Bytes) → room ≤ length b → told o (strike k t) (line_of p n) b ≢ told o t (line_of p n) b
  pub no_earlier : (m : ℕ) → m < n → (b : Bytes) → told o (strike k t) (line_of p m) b ≡ told o t (line_of p m) b

-- A report r on policy p, of which t of policy q is left, and each rule left is shown with the first request that needs it
pub record Shown (o : Operate) (p q : Policy) (t : Trimmed) (r : Bytes) : Type 0 where
  pub reported : Reported p q t r
  pub needed : (k : ℕ) → is_rule_line t.text k ≡ true → NeededFirst o p t.text k (reported.needed_by k)

-- A file, a buffer for its trimmed text and one for its report
module _ (o : Operate) (f buffer sheet : Bytes) where
  abbrev left : Bytes
  left = written o.trim f buffer

  abbrev report_text : Bytes
  report_text = written o.report f sheet

  pub record Demand3 : Type 0 where
    -- the file is a policy file, and so is what is left of it
    pub policy : Policy
    pub is_file : WellFormed f policy
    pub policy_left : Policy
    pub left_file : WellFormed left policy_left
    -- its own lines in order, less exactly those that the paper's trimming strikes
    pub struck : List Bytes
    pub steps : Trims f struck left
    pub own_lines : lines left ≡ keep (stays struck) (lines f)
    -- every request line is answered alike
    pub alike : (r b : Bytes) → told o left r b ≡ told o f r b
    -- the report's lines in order, and no others: the struck rules, and each rule left with the first request that needs it
    pub shown : Shown o policy policy_left (record { text = left; struck = struck }) report_text
    -- trimmed again it stays as it is
    pub again_fits : (b : Bytes) → length left ≤ length b → (o.trim.answer left b).number ≡ 0
    pub again_same : (b : Bytes) → (o.trim.answer left b).number ≡ 0 → written o.trim left b ≡ left
    -- the answers tell how long the texts are, and behind them the buffers are as they were
    pub text_size : (o.trim.answer f buffer).second ≡ length left
    pub report_size : (o.report.answer f sheet).second ≡ length report_text
    pub behind_text : drop (o.trim.answer f buffer).second (o.trim.after f buffer) ≡ drop (o.trim.answer f buffer).second buffer
    pub behind_report : drop (o.report.answer f sheet).second (o.report.after f sheet) ≡ drop (o.report.answer f sheet).second sheet

-- what is told, by what deciding gives for a buffer; of outcomes that fit, another one is told otherwise
abbrev pub telling : Bytes → Result Outcome → Decided × Bytes
telling b x = (decided_by x, lent b (x then λ o. given o.obligations))

pub told_is : (o : Operate) (f r b : Bytes) → told o f r b ≡ telling b (decide_file (length b) f r)
told_is o f r b = ap₂ (λ x y. (x, y)) (o.decide_is f r b) (o.decide_after_is f r b)

text_told_lem : (b : Bytes) (x : Outcome) → take (length x.obligations) (lent b (given x.obligations)) ≡ x.obligations
text_told_lem b x = take-append_seam x.obligations (drop (length x.obligations) b)

told_apart : (b : Bytes) (x y : Outcome) → telling b (given x) ≡ telling b (given y) → x ≡ y
told_apart b x y e =
    let a : decided_by (given x) ≡ decided_by (given y) = ap (λ t. t.0) e in
    let size : length x.obligations ≡ length y.obligations = ap (λ d. d.length) a in
    let text : x.obligations ≡ y.obligations = sym (text_told_lem b x) ∙ ap₂ take size (ap (λ t. t.1) e) ∙ text_told_lem b y in
    let decision = same_number x.decision y.decision (ap (λ d. d.second) a) in
    λ i. record { decision = decision i; obligations = text i }

-- the line of a number gets its outcome, or 11
number_decided : (f : Bytes) (p : Policy) → read f ≡ given p → (n : ℕ) → n < space p.attributes → (room : ℕ) → decide_file room f (line_of p n) ≡ outcome_for room (outcome p n)
unfolding decide_file
number_decided f p h n l room =
    let b = bounded f p h in
    let numbers = numbered p.attributes b.some_attribute b.attributes_good in
    rw (h, numbers.to_line (request_of (sizes p.attributes) n) (numbers.number_again n l).0)

module _ (o : Operate) where
  -- what is told on a request's line, of a file with these attributes
  line_told : (f : Bytes) (p q : Policy) → read f ≡ given q → q.attributes ≡ p.attributes → (n : ℕ) → n < space p.attributes → (b : Bytes) → told o f (line_of p n) b ≡ telling b (outcome_for (length b) (outcome q n))
  line_told f p q h e n l b = told_is o f (line_of p n) b ∙ ap (telling b) (subst (λ attrs. decide_file (length b) f (request_text attrs (request_of (sizes attrs) n)) ≡ outcome_for (length b) (outcome q n)) e (number_decided f q h n (rw e l) (length b)))

  first_needed : (p q : Policy) (t : Bytes) → read t ≡ given q → q.attributes ≡ p.attributes → (k n : ℕ) → is_rule_line t k ≡ true → (x : Policy) → read (strike k t) ≡ given x → FirstChange q x n → NeededFirst o p t k n
  first_needed p q t h e k n r x i c =
      let same : x.attributes ≡ p.attributes = ap (λ y. y.attributes) (given_given (sym i ∙ (strike_read t q h k r).others)) ∙ e in
      let inside : n < space p.attributes = subst (λ attrs. n < space attrs) e c.in_space in
      record {
        in_space = inside;
        room = length (outcome q n).obligations + length (outcome x n).obligations;
        decided = λ b l. (ap (λ a. a.0.number) (with_it inside b (omega arith)), ap (λ a. a.0.number) (without_it same inside b (omega arith)));
        differs = λ b l z. c.differs (told_apart b (outcome x n) (outcome q n) (sym (without_it same inside b (omega arith)) ∙ z ∙ with_it inside b (omega arith)));
        no_earlier = λ m l b. let low : m < space p.attributes = omega arith in
            line_told (strike k t) p x i same m low b ∙ ap (λ y. telling b (outcome_for (length b) y)) (c.no_earlier m l) ∙ sym (line_told t p q h e m low b);
      }
    where
      fits : (b : Bytes) (y : Outcome) → length y.obligations ≤ length b → outcome_for (length b) y ≡ given y
      fits b y l = rw (le-ltb (length b) (length y.obligations) l)

      with_it : n < space p.attributes → (b : Bytes) → length (outcome q n).obligations ≤ length b → told o t (line_of p n) b ≡ telling b (given (outcome q n))
      with_it inside b l = line_told t p q h e n inside b ∙ ap (telling b) (fits b (outcome q n) l)

      without_it : x.attributes ≡ p.attributes → n < space p.attributes → (b : Bytes) → length (outcome x n).obligations ≤ length b → told o (strike k t) (line_of p n) b ≡ telling b (given (outcome x n))
      without_it same inside b l = line_told (strike k t) p x i same n inside b ∙ ap (telling b) (fits b (outcome x n) l)

pub demand_3 : (o : Operate) (f buffer sheet : Bytes) → (o.trim.answer f buffer).number ≡ 0 → (o.report.answer f sheet).number ≡ 0 → Demand3 o f buffer sheet
demand_3 o f buffer sheet trim-done report-done =
    let x = gave (trims o.trim f buffer) trim-done in
    let y = gave (reports o.report f sheet) report-done in
    let (p, h, is_text) = step_then (read f) (λ p. given (trimmed f).text) x.result x.is in
    let (p', h', is-report) = step_then (read f) (λ p. given (report f p)) y.result y.is in
    let same : p' ≡ p = given_given (sym h' ∙ h) in
    let t = (trimmed f).text in
    let left_is : left o f buffer sheet ≡ t = x.taken ∙ sym (given_given is_text) in
    let report-is : report_text o f buffer sheet ≡ report f p = y.taken ∙ sym (given_given is-report) ∙ ap (report f) same in
    let s = trims_soundly f p h in
    let attrs = s.alike.same_attributes in
    let again : (read t then λ q. given (trimmed t).text) ≡ given t = rw (s.is_accepted, s.again) in
    record {
      policy = p;
      is_file = (well_formed f p).0 h;
      policy_left = s.policy;
      left_file = rw left_is ((well_formed t s.policy).0 s.is_accepted);
      struck = (trimmed f).struck;
      steps = rw left_is s.steps;
      own_lines = rw left_is s.own_lines;
      alike = λ r b. rw left_is (told_is o t r b ∙ ap (telling b) (s.decides (length b) r) ∙ sym (told_is o f r b));
      shown = rw (report-is, left_is) (record { reported = s.reported; needed = λ k r. let (q, i, c) = s.reported.needed k r in first_needed o p s.policy t s.is_accepted attrs k (s.reported.needed_by k) r q i c });
      again_fits = rw left_is (λ b l. ap (λ a. a.number) ((trims o.trim t b).written_so t again l).0);
      again_same = rw left_is (λ b d. let z = gave (trims o.trim t b) d in z.taken ∙ given_given (sym z.is ∙ again));
      text_size = x.told ∙ ap length (sym x.taken);
      report_size = y.told ∙ ap length (sym y.taken);
      behind_text = x.behind;
      behind_report = y.behind;
    }
