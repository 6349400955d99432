-- Demand 2 of the operations on a lent list, from their contracts alone: read then written, the same bytes; written then read,
-- the same elements.
use mathlib.Core.Path.{◌≡◌, sym, ap, ◌∙◌, subst}
use mathlib.Core.List.{List}
use lib.ListN.{take, drop, length}
use borrow.Author.Tests.{le-ltb}
use Rattle.meaning.specs.declared.Answer.{Answer}
use Rattle.meaning.specs.declared.Element.{Element}
use Rattle.meaning.specs.Text.{Bytes}
use Rattle.meaning.specs.Model.{Policy, given, ◌then◌}
use Rattle.meaning.specs.Reading.{read}
use Rattle.meaning.specs.Writing.{write_file}
use Rattle.meaning.specs.Operations.{read_answer, read_lent, write_answer, write_lent}
use Rattle.meaning.specs.Claims.Texts.{All}
use Rattle.meaning.specs.Claims.PolicyFile.{WellFormed}
use Rattle.meaning.specs.Claims.Writing.{Shaped, attribute_lines, Made}
use Rattle.meaning.specs.Claims.Operations.{Writes}
use Rattle.laws.proofs.Reading.{given_given, step_then}
use Rattle.laws.proofs.WellFormed.{well_formed}
use Rattle.laws.proofs.Reread.{round_trips}
use Rattle.laws.proofs.Made.{made}
use Rattle.laws.proofs.Operations.{operations, gave}

-- A call of `read_list` and one of `write_list`, by what was lent, the answer and what stood there afterwards: their contracts
pub record ReadList (file : Bytes) (before : List Element) (answer : Answer) (after : List Element) : Type 0 where
  pub answer_is : answer ≡ read_answer file before
  pub after_is : after ≡ read_lent file before

pub record WriteList (header : Bytes) (es : List Element) (before : Bytes) (answer : Answer) (after : Bytes) : Type 0 where
  pub answer_is : answer ≡ write_answer header es before
  pub after_is : after ≡ write_lent header es before
  pub shaped : answer.number ≡ 0 → All Shaped es

-- What was read: the elements of a policy file, as many as the answer tells, and behind them the list as it was
pub record HasRead (f : Bytes) (before : List Element) (answer : Answer) (after : List Element) : Type 0 where
  pub policy : Policy
  pub is_file : WellFormed f policy
  pub count : answer.second ≡ length policy.elements
  pub elements : take answer.second after ≡ policy.elements
  pub behind : drop answer.second after ≡ drop answer.second before

-- What was written: the policy file of just these attribute lines and elements, as long as the answer tells, and behind it the
-- buffer as it was
pub record HasWritten (header : Bytes) (es : List Element) (before : Bytes) (answer : Answer) (after : Bytes) : Type 0 where
  pub size : answer.second ≡ length (take answer.second after)
  pub file : Made 16384 header es (take answer.second after)
  pub behind : drop answer.second after ≡ drop answer.second before

-- Whatever is lent next: if it has room the file comes out again, or the elements, and otherwise it stays as it was
pub record Demand2 : Type 0 where
  pub reads : (f : Bytes) (list after : List Element) (a : Answer) → ReadList f list a after → a.number ≡ 0 → HasRead f list a after
  pub read_written : (f : Bytes) (list after : List Element) (a : Answer) → ReadList f list a after → a.number ≡ 0
      → (buffer again : Bytes) (b : Answer) → WriteList (attribute_lines f) (take a.second after) buffer b again → Writes 11 (given f) b buffer again
  pub writes : (header : Bytes) (es : List Element) (buffer after : Bytes) (a : Answer) → WriteList header es buffer a after → a.number ≡ 0 → HasWritten header es buffer a after
  pub written_read : (header : Bytes) (es : List Element) (buffer after : Bytes) (a : Answer) → WriteList header es buffer a after → a.number ≡ 0
      → (list again : List Element) (b : Answer) → ReadList (take a.second after) list b again → Writes 12 (given es) b list again

module _ (f : Bytes) (list after : List Element) (a : Answer) (call : ReadList f list a after) where
  as_read_lem : Writes 12 (read f then λ p. given p.elements) a list after
  as_read_lem = rw (call.answer_is, call.after_is) (operations.reads f list)

  has_read : a.number ≡ 0 → HasRead f list a after
  has_read done =
      let g = gave as_read_lem done in
      let (p, h, e) = step_then (read f) (λ p. given p.elements) g.result g.is in
      let same = sym (given_given e) in
      record { policy = p; is_file = (well_formed f p).0 h; count = g.told ∙ ap length same; elements = g.taken ∙ same; behind = g.behind }

module _ (header : Bytes) (es : List Element) (buffer after : Bytes) (a : Answer) (call : WriteList header es buffer a after) where
  as_written : Writes 11 (write_file 16384 header es) a buffer after
  as_written = rw (call.answer_is, call.after_is) (operations.writes header es buffer)

  has_written : a.number ≡ 0 → HasWritten header es buffer a after
  has_written done =
      let g = gave as_written done in
      let same = sym g.taken in
      record { size = g.told ∙ ap length same; file = (made 16384 header es (take a.second after) (call.shaped done)).0 (g.is ∙ ap given same); behind = g.behind }

pub demand_2 : Demand2
demand_2 = record {
  reads = has_read;
  read_written = λ f list after a call done buffer again b next.
      let r = has_read f list after a call done in
      let size = r.is_file.size in
      let same : write_file 16384 (attribute_lines f) (take a.second after) ≡ given f =
      ap (write_file 16384 (attribute_lines f)) r.elements ∙ round_trips.rewritten f r.policy ((well_formed f r.policy).1 r.is_file) 16384 ∙ rw (le-ltb 16384 (length f) size) in
      subst (λ x. Writes 11 x b buffer again) same (as_written (attribute_lines f) (take a.second after) buffer again b next);
  writes = has_written;
  written_read = λ header es buffer after a call done list again b next.
      let t = take a.second after in
      let m = (has_written header es buffer after a call done).file in
      let same : (read t then λ p. given p.elements) ≡ given es = rw ((well_formed t m.policy).1 m.is_file) (ap given m.same_elements) in
      subst (λ x. Writes 12 x b list again) same (as_read_lem t list again b next);
}
