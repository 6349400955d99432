-- What an operation answers and lends, and what the program prints.
use mathlib.Core.Path.{◌≡◌, refl, sym, ap, ◌∙◌, subst}
use Prim.Native.Nat.{ℕ, ◌≤◌, ◌<◌}
use native.Mathlib.Omega.{arith}
use mathlib.Core.Bool.{cond}
use mathlib.Core.List.{List, ◌++◌}
use lib.Dec.{ltb, lit≤}
use lib.ListN.{length, take, drop}
use lib.Seq.{take_at, drop-append_seam}
use borrow.Author.Tests.{ltb-true, ltb-false, lt-ltb, le-ltb}
use Rattle.meaning.specs.declared.Answer.{Answer}
use Rattle.meaning.specs.Text.{Bytes, gathered}
use Rattle.meaning.specs.Model.{Policy, Result, refused, given, ◌then◌}
use Rattle.meaning.specs.Reading.{read, short, read_text, finished}
use Rattle.meaning.specs.Trimming.{trimmed}
use Rattle.meaning.specs.Report.{report, fitted, trim_file, report_file, program}
use Rattle.meaning.specs.ValuePairs.{pairs_named, value_pairs_file}
use Rattle.meaning.specs.RuleByRule.{next_name, strike_named, next_rule_file, strike_file}
use Rattle.meaning.specs.HeldState.{step_file}
use Rattle.meaning.specs.Accepting.{accept_file}
use Rattle.meaning.specs.Joining.{joined, join_file}
use Rattle.meaning.specs.Writing.{header_tests, read_elements, element_lines, list_file, write_file}
use Rattle.meaning.specs.Deciding.{decide_file}
use Rattle.meaning.specs.Operations.{answered, lent, decided_by, stepped_by}
use Rattle.meaning.specs.Claims.Operations.{Writes, Operations, Prints}
use Rattle.laws.proofs.Types.{Element}
use Rattle.laws.proofs.Bools.{Test, passed, failed, test}
use Rattle.laws.proofs.Reading.{refused-given, given_given}
use Rattle.laws.proofs.Refusals.{Numbered, then_numbered, read_numbered, pairs_numbered, strike_numbered, joined_numbered, write_numbered}
use Rattle.laws.proofs.RequestLines.{decides}
use Rattle.laws.proofs.Settled.{fields_settle}
use Rattle.laws.proofs.HeldState.{step_shorter}

module _ {A : Type 0} (too_short : ℕ) (old : List A) where
  -- a result for the lent places
  abbrev fit : List A → Result (List A)
  fit xs = cond (ltb (length old) (length xs)) (refused too_short (length xs)) (given xs)

  writes : 1 ≤ too_short → (wanted : Result (List A)) → Numbered wanted → (r : Result (List A)) → r ≡ (wanted then fit) → Writes too_short wanted (answered length r) old (lent old r)
  writes l (refused n m) some r e = rw e (record {
    refused_so = λ k i h. let z : n ≡ k = cc in let w : m ≡ i = cc in (λ j. record { number = z j; second = w j }, refl);
    short_so = λ xs h. refused-given h;
    written_so = λ xs h. refused-given h;
    no_trace = λ h. refl;
    done = λ h. absurd (omega (arith, h, some));
  })
  writes l (given ys) some r e = rw e (go (test (ltb (length old) (length ys))))
    where
      go : Test (ltb (length old) (length ys)) → Writes too_short (given ys) (answered length (fit ys)) old (lent old (fit ys))
      go (passed t) = rw t (record {
        refused_so = λ n m h. refused-given (sym h);
        short_so = λ xs h u. let z : ys ≡ xs = given_given h in (ap (λ w. record { number = too_short; second = length w }) z, refl);
        written_so = λ xs h u. let z : ys ≡ xs = given_given h in absurd (omega (arith, u, ap length z, ltb-true (length old) (length ys) t));
        no_trace = λ h. refl;
        done = λ h. absurd (omega (arith, h, l));
      })
      go (failed t) = rw t (record {
        refused_so = λ n m h. refused-given (sym h);
        short_so = λ xs h u. let z : ys ≡ xs = given_given h in absurd (omega (arith, u, ap length z, ltb-false (length old) (length ys) t));
        written_so = λ xs h u. let z : ys ≡ xs = given_given h in rw (← z) (refl, take_at ys (drop (length ys) old) (length ys) refl, drop-append_seam ys (drop (length ys) old));
        no_trace = λ h. absurd (h refl);
        done = λ h. (ys, refl, ltb-false (length old) (length ys) t);
      })

-- What an operation that did its work wrote
pub record Gave {A : Type 0} (wanted : Result (List A)) (answer : Answer) (before after : List A) : Type 0 where
  pub result : List A
  pub is : wanted ≡ given result
  pub told : answer.second ≡ length result
  pub taken : take answer.second after ≡ result
  pub behind : drop answer.second after ≡ drop answer.second before

pub gave : {A : Type 0} {too_short : ℕ} {wanted : Result (List A)} {answer : Answer} {before after : List A} → Writes too_short wanted answer before after → answer.number ≡ 0 → Gave wanted answer before after
gave w d =
    let (xs, is, fits) = w.done d in
    let (answers, start, rest) = w.written_so xs is fits in
    let told = ap (λ a. a.second) answers in
    record { result = xs; is = is; told = told; taken = rw told start; behind = rw told rest }

-- reading first
given_numbered : {A B : Type 0} (r : Result A) (g : A → B) → Numbered r → Numbered (r then λ a. given (g a))
given_numbered (refused n m) g h = h
given_numbered (given a) g h = tt

given_then : {A B C : Type 0} (r : Result A) (g : A → B) (k : B → Result C) → (r then λ a. k (g a)) ≡ ((r then λ a. given (g a)) then k)
given_then (refused n m) g k = refl
given_then (given a) g k = refl

-- the writer for any room is the writer for 16,384 bytes, with that room
then_through : {A B C : Type 0} (x : Result A) (f : A → Result C) (g : A → Result B) (k : B → Result C) → ((a : A) → f a ≡ (g a then k)) → (x then f) ≡ ((x then g) then k)
then_through (refused n m) f g k h = refl
then_through (given a) f g k h = h a

short_room : (room : ℕ) (t : Bytes) → (short t then fitted room) ≡ ((short t then fitted 16384) then fitted room)
short_room room t = go (test (ltb 16384 (length t)))
  where
    go : Test (ltb 16384 (length t)) → (short t then fitted room) ≡ ((short t then fitted 16384) then fitted room)
    go (passed e) = rw e
    go (failed e) = rw (e, e)

write_room : (room : ℕ) (header : Bytes) (es : List Element) → write_file room header es ≡ (write_file 16384 header es then fitted room)
unfolding write_file
write_room room header es =
    then_through (short header) _ _ (fitted room) (λ h. then_through (read_text header_tests h) _ _ (fitted room) (λ s. then_through (read_elements _ s es then finished) _ _ (fitted room)
    (λ p. short_room room (h ++ gathered (element_lines p.attributes) p.elements))))

pub operations : Operations
unfolding trim_file report_file value_pairs_file next_rule_file strike_file step_file accept_file join_file list_file decide_file
operations = record {
  decision_numbers = refl;
  decides_no_file = λ f r buffer n m h. (rw h, rw h);
  decides_no_request = λ f r buffer p n m h e. (rw (h, e), rw (h, e));
  decides_short = λ f r buffer p q h e o i short.
      let gets = (decides f p h).too_short r q e (length buffer) (subst (λ x. length buffer < length x.obligations) i short) in
      (ap decided_by gets ∙ ap (λ x. record { number = 11; second = length x.obligations; length = 0 }) (sym i), ap (λ x. lent buffer (x then λ o. given o.obligations)) gets);
  decides = λ f r buffer p q h e o i fits.
      let gets = (decides f p h).each_line r q e (length buffer) (subst (λ x. length x.obligations ≤ length buffer) i fits) ∙ ap given (sym i) in
      let own = ap (λ x. lent buffer (x then λ o. given o.obligations)) gets in
      let behind = drop (length o.obligations) buffer in
      (ap decided_by gets, ap (take (length o.obligations)) own ∙ take_at o.obligations behind (length o.obligations) refl, ap (drop (length o.obligations)) own ∙ drop-append_seam o.obligations behind);
  trims = λ f buffer. writes 11 buffer (lit≤ tt) (read f then λ p. given (trimmed f).text) (given_numbered (read f) _ (read_numbered f)) (trim_file (length buffer) f) (given_then (read f) (λ p. (trimmed f).text) (fitted (length buffer)));
  reports = λ f buffer. writes 11 buffer (lit≤ tt) (read f then λ p. given (report f p)) (given_numbered (read f) _ (read_numbered f)) (report_file (length buffer) f) (given_then (read f) (report f) (fitted (length buffer)));
  tells_pairs = λ f name buffer. writes 11 buffer (lit≤ tt) (read f then λ p. pairs_named p name) (then_numbered (read f) (λ p. pairs_named p name) (read_numbered f) (λ p. pairs_numbered p name)) (value_pairs_file (length buffer) f name) (then_through (read f) _ _ (fitted (length buffer)) (λ p. refl));
  shows_next = λ f buffer. writes 11 buffer (lit≤ tt) (read f then λ p. given (next_name f)) (given_numbered (read f) _ (read_numbered f)) (next_rule_file (length buffer) f) (given_then (read f) (λ p. next_name f) (fitted (length buffer)));
  strikes = λ f rule buffer. writes 11 buffer (lit≤ tt) (read f then λ p. strike_named f rule) (then_numbered (read f) (λ p. strike_named f rule) (read_numbered f) (λ p. strike_numbered f rule)) (strike_file (length buffer) f rule) (then_through (read f) _ _ (fitted (length buffer)) (λ p. refl));
  steps_no_file = λ text n m h. (rw h, rw h);
  steps = λ text p h s i.
      let gets : step_file text ≡ given s = rw (h, i) in
      let own = ap (λ x. lent text (x then λ s. given s.text)) gets in
      let behind = drop (length s.text) text in
      (ap stepped_by gets, rw i (step_shorter text), ap (take (length s.text)) own ∙ take_at s.text behind (length s.text) refl, ap (drop (length s.text)) own ∙ drop-append_seam s.text behind);
  accepts_no_original = λ f g n m h. rw h;
  accepts_no_proposal = λ f g p n m h i. rw (h, i);
  accepts_not = λ f g p q n m h i e. rw (h, i, e);
  accepts = λ f g p q t h i e. rw (h, i, e);
  joins = λ f g w buffer.
      let wanted : Policy → Result Bytes = λ p. read g then λ q. joined w f p.attributes g q.attributes in
      writes 11 buffer (lit≤ tt) (read f then wanted)
      (then_numbered (read f) wanted (read_numbered f) (λ p. then_numbered (read g) _ (read_numbered g) (λ q. joined_numbered w f p.attributes g q.attributes)))
      (join_file (length buffer) f g w) (then_through (read f) _ _ (fitted (length buffer)) (λ p. then_through (read g) _ _ (fitted (length buffer)) (λ q. refl)));
  reads = λ f list. writes 12 list (lit≤ tt) (read f then λ p. given p.elements) (given_numbered (read f) _ (read_numbered f)) (list_file (length list) f) (given_then (read f) (λ p. p.elements) (fit 12 list));
  writes = λ header es buffer. writes 11 buffer (lit≤ tt) (write_file 16384 header es) (write_numbered 16384 header es) (write_file (length buffer) header es) (write_room (length buffer) header es);
}

pub prints : Prints
unfolding program report_file
prints = record {
  refusal = λ f n m h. rw h;
  too_long = λ f p h l. rw (h, lt-ltb 65536 (length (report f p)) l);
  the_report = λ f p h l. rw (h, le-ltb 65536 (length (report f p)) l);
  by_fields = fields_settle;
}
