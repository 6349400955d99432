-- The operations by what they are passed and what they leave, with their contracts alone: what holds of these holds of every
-- build that keeps them.
use mathlib.Core.Path.{◌≡◌, refl}
use lib.ListN.{take}
use Rattle.meaning.specs.declared.Answer.{Answer}
use Rattle.meaning.specs.declared.Decided.{Decided}
use Rattle.meaning.specs.declared.Stepped.{Stepped}
use Rattle.meaning.specs.Text.{Bytes}
use Rattle.meaning.specs.Model.{given, ◌then◌}
use Rattle.meaning.specs.Reading.{read}
use Rattle.meaning.specs.Trimming.{trimmed}
use Rattle.meaning.specs.Report.{report}
use Rattle.meaning.specs.ValuePairs.{pairs_named}
use Rattle.meaning.specs.RuleByRule.{next_name, strike_named}
use Rattle.meaning.specs.Joining.{joined}
use Rattle.meaning.specs.Operations.{decide_answer, decide_lent, trim_answer, trim_lent, report_answer, report_lent, value_pairs_answer, value_pairs_lent, next_rule_answer, next_rule_lent, strike_answer, strike_lent, step_answer, step_lent, accept_answer, join_answer, join_lent}
use Rattle.meaning.specs.Claims.Operations.{Writes}
use Rattle.laws.proofs.Operations.{operations}

-- An operation that writes a text of a file into a lent buffer: its answer, the buffer afterwards, and the contract on both
pub record TextOperation (answered : (file buffer : Bytes) → Answer) (lent : (file buffer : Bytes) → Bytes) : Type 0 where
  pub answer : (file buffer : Bytes) → Answer
  pub after : (file buffer : Bytes) → Bytes
  pub answer_is : (f b : Bytes) → answer f b ≡ answered f b
  pub after_is : (f b : Bytes) → after f b ≡ lent f b

-- the text that was written
abbrev pub written : {answered : (file buffer : Bytes) → Answer} {lent : (file buffer : Bytes) → Bytes} → TextOperation answered lent → Bytes → Bytes → Bytes
written o f b = take (o.answer f b).second (o.after f b)

abbrev pub Trim : Type 0
Trim = TextOperation trim_answer trim_lent

abbrev pub Report : Type 0
Report = TextOperation report_answer report_lent

-- of the attribute that has a name
abbrev pub ValuePairs : Bytes → Type 0
ValuePairs name = TextOperation (λ file buffer. value_pairs_answer file name buffer) (λ file buffer. value_pairs_lent file name buffer)

abbrev pub NextRule : Type 0
NextRule = TextOperation next_rule_answer next_rule_lent

-- of the rule that has a name
abbrev pub Strike : Bytes → Type 0
Strike rule = TextOperation (λ file buffer. strike_answer file rule buffer) (λ file buffer. strike_lent file rule buffer)

-- with a second file, under a word
abbrev pub Join : (second word : Bytes) → Type 0
Join second word = TextOperation (λ file buffer. join_answer file second word buffer) (λ file buffer. join_lent file second word buffer)

-- A step of trimming: its answer, and what then stands in the place of its text
pub record StepOperation : Type 0 where
  pub answer : (text : Bytes) → Stepped
  pub after : (text : Bytes) → Bytes
  pub answer_is : (t : Bytes) → answer t ≡ step_answer t
  pub after_is : (t : Bytes) → after t ≡ step_lent t

-- A proposal beside its original: no memory is lent
pub record AcceptOperation : Type 0 where
  pub answer : (original proposal : Bytes) → Answer
  pub answer_is : (f g : Bytes) → answer f g ≡ accept_answer f g

-- All nine
pub record Operate : Type 0 where
  pub decide : (file request buffer : Bytes) → Decided
  pub decide_after : (file request buffer : Bytes) → Bytes
  pub decide_is : (f r b : Bytes) → decide f r b ≡ decide_answer f r b
  pub decide_after_is : (f r b : Bytes) → decide_after f r b ≡ decide_lent f r b
  pub trim : Trim
  pub report : Report
  pub value_pairs : (name : Bytes) → ValuePairs name
  pub next_rule : NextRule
  pub strike : (rule : Bytes) → Strike rule
  pub step : StepOperation
  pub accept : AcceptOperation
  pub join : (second word : Bytes) → Join second word

-- what is defined meets them
pub as_defined : Operate
as_defined = record {
  decide = decide_answer;
  decide_after = decide_lent;
  decide_is = λ f r b. refl;
  decide_after_is = λ f r b. refl;
  trim = record { answer = trim_answer; after = trim_lent; answer_is = λ f b. refl; after_is = λ f b. refl };
  report = record { answer = report_answer; after = report_lent; answer_is = λ f b. refl; after_is = λ f b. refl };
  value_pairs = λ name. record { answer = λ f b. value_pairs_answer f name b; after = λ f b. value_pairs_lent f name b; answer_is = λ f b. refl; after_is = λ f b. refl };
  next_rule = record { answer = next_rule_answer; after = next_rule_lent; answer_is = λ f b. refl; after_is = λ f b. refl };
  strike = λ rule. record { answer = λ f b. strike_answer f rule b; after = λ f b. strike_lent f rule b; answer_is = λ f b. refl; after_is = λ f b. refl };
  step = record { answer = step_answer; after = step_lent; answer_is = λ t. refl; after_is = λ t. refl };
  accept = record { answer = accept_answer; answer_is = λ f g. refl };
  join = λ second word. record { answer = λ f b. join_answer f second word b; after = λ f b. join_lent f second word b; answer_is = λ f b. refl; after_is = λ f b. refl };
}

-- what they write
pub trims : (o : Trim) (f b : Bytes) → Writes 11 (read f then λ p. given (trimmed f).text) (o.answer f b) b (o.after f b)
trims o f b = rw (o.answer_is f b, o.after_is f b) (operations.trims f b)

pub reports : (o : Report) (f b : Bytes) → Writes 11 (read f then λ p. given (report f p)) (o.answer f b) b (o.after f b)
reports o f b = rw (o.answer_is f b, o.after_is f b) (operations.reports f b)

pub tells_pairs : (name : Bytes) (o : ValuePairs name) (f b : Bytes) → Writes 11 (read f then λ p. pairs_named p name) (o.answer f b) b (o.after f b)
tells_pairs name o f b = rw (o.answer_is f b, o.after_is f b) (operations.tells_pairs f name b)

pub shows_next : (o : NextRule) (f b : Bytes) → Writes 11 (read f then λ p. given (next_name f)) (o.answer f b) b (o.after f b)
shows_next o f b = rw (o.answer_is f b, o.after_is f b) (operations.shows_next f b)

pub strikes : (rule : Bytes) (o : Strike rule) (f b : Bytes) → Writes 11 (read f then λ p. strike_named f rule) (o.answer f b) b (o.after f b)
strikes rule o f b = rw (o.answer_is f b, o.after_is f b) (operations.strikes f rule b)

pub joins : (second word : Bytes) (o : Join second word) (f b : Bytes) → Writes 11 (read f then λ p. read second then λ q. joined word f p.attributes second q.attributes) (o.answer f b) b (o.after f b)
joins second word o f b = rw (o.answer_is f b, o.after_is f b) (operations.joins f second word b)
