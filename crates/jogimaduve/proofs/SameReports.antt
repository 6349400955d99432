-- Two builds of the tool give the same bytes for the same file: of any two operations that keep the contract of
-- `jogimaduve_report`, from that contract alone.
use mathlib.Core.Path.{◌≡◌, refl, sym, ap, ◌∙◌}
use mathlib.Core.Logic.{◌≢◌, ◌↔◌}
use Prim.Native.Nat.{ℕ}
use lib.ListN.{length}
use lib.Dec.{ltb}
use borrow.Author.Tests.{ltb-true, ltb-false}
use Rattle.meaning.specs.declared.Answer.{Answer}
use Rattle.meaning.specs.Text.{Bytes}
use Rattle.meaning.specs.Model.{Policy, Result, refused, given}
use Rattle.meaning.specs.Reading.{read}
use Rattle.meaning.specs.Report.{report}
use Rattle.meaning.specs.Claims.PolicyFile.{WellFormed}
use Rattle.meaning.specs.Claims.Trimming.{ReportOf}
use Rattle.meaning.specs.Claims.Operations.{Writes}
use Rattle.laws.proofs.Bools.{Test, passed, failed, test}
use Rattle.laws.proofs.Reading.{given_given, step_then}
use Rattle.laws.proofs.WellFormed.{well_formed}
use Rattle.laws.proofs.Settled.{reporting}
use Rattle.laws.proofs.Operations.{gave}
use Rattle.jogimaduve.proofs.Operate.{Report, written, reports}

pub record SameReports (one other : Report) : Type 0 where
  -- lent the same buffer, they answer alike and leave the same in it
  pub same_call : (f b : Bytes) → (one.answer f b ≡ other.answer f b) × (one.after f b ≡ other.after f b)
  -- lent any two: where both write, they write the same text
  pub same_text : (f b c : Bytes) → (one.answer f b).number ≡ 0 → (other.answer f c).number ≡ 0 → written one f b ≡ written other f c
  -- the second number is the same, be it the text's length, the bytes needed or a line
  pub same_second : (f b c : Bytes) → (one.answer f b).second ≡ (other.answer f c).second
  -- and so is a refusal, but for that of a short buffer
  pub same_refusal : (f b c : Bytes) → (one.answer f b).number ≢ 0 → (one.answer f b).number ≢ 11 → one.answer f b ≡ other.answer f c
  -- no field of the text is free: it is the report in the paper's words, and no other text is
  pub the_report : (f b : Bytes) → (one.answer f b).number ≡ 0 → (p : Policy) × WellFormed f p × ((r : Bytes) → ReportOf f p r ↔ (r ≡ written one f b))

-- Two calls that are to write the same: what each answers
abbrev second_of : Result Bytes → ℕ
second_of (refused n m) = m
second_of (given t) = length t

second_is : (wanted : Result Bytes) {answer : Answer} {before after : Bytes} → Writes 11 wanted answer before after → answer.second ≡ second_of wanted
second_is (refused n m) w = ap (λ a. a.second) (w.refused_so n m refl).0
second_is (given t) {answer} {before} w = go (test (ltb (length before) (length t)))
  where
    go : Test (ltb (length before) (length t)) → answer.second ≡ length t
    go (passed e) = ap (λ a. a.second) (w.short_so t refl (ltb-true (length before) (length t) e)).0
    go (failed e) = ap (λ a. a.second) (w.written_so t refl (ltb-false (length before) (length t) e)).0

refused_alike : (wanted : Result Bytes) {one other : Answer} {b b' c c' : Bytes} → Writes 11 wanted one b b' → Writes 11 wanted other c c' → one.number ≢ 0 → one.number ≢ 11 → one ≡ other
refused_alike (refused n m) w x some long = (w.refused_so n m refl).0 ∙ sym (x.refused_so n m refl).0
refused_alike (given t) {one} {other} {b} w x some long = go (test (ltb (length b) (length t)))
  where
    go : Test (ltb (length b) (length t)) → one ≡ other
    go (passed e) = absurd (long (ap (λ a. a.number) (w.short_so t refl (ltb-true (length b) (length t) e)).0))
    go (failed e) = absurd (some (ap (λ a. a.number) (w.written_so t refl (ltb-false (length b) (length t) e)).0))

pub same_reports : (one other : Report) → SameReports one other
same_reports one other = record {
  same_call = λ f b. (one.answer_is f b ∙ sym (other.answer_is f b), one.after_is f b ∙ sym (other.after_is f b));
  same_text = λ f b c d e.
      let x = gave (reports one f b) d in
      let y = gave (reports other f c) e in
      x.taken ∙ given_given (sym x.is ∙ y.is) ∙ sym y.taken;
  same_second = λ f b c. second_is _ (reports one f b) ∙ sym (second_is _ (reports other f c));
  same_refusal = λ f b c. refused_alike _ (reports one f b) (reports other f c);
  the_report = λ f b d.
      let x = gave (reports one f b) d in
      let (p, h, is-report) = step_then (read f) (λ p. given (report f p)) x.result x.is in
      let is : written one f b ≡ report f p = x.taken ∙ sym (given_given is-report) in
      let exactly = reporting f p h in
      (p, (well_formed f p).0 h, λ r. (λ a. (exactly r).0 a ∙ sym is, λ e. (exactly r).1 (e ∙ is)));
}
