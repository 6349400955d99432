-- What `jogimaduve_step` answers and leaves, in the paper's words and for every text, from its contract alone; and what any list of steps,
-- decisions and refused requests comes to.
use mathlib.Core.Path.{◌≡◌, refl, sym, ap, ap₂, ◌∙◌, subst}
use mathlib.Core.Logic.{◌↔◌}
use Prim.Native.Nat.{ℕ, ◌+◌, ◌-◌, ◌≤◌, ◌<◌}
use native.Mathlib.Omega.{arith}
use mathlib.Core.Bool.{false, cond}
use mathlib.Core.List.{List, [], ◌∷◌, ◌++◌, append_assoc, append-nil}
use lib.ListN.{length, take, drop, take-append-drop, length-append, length-drop}
use lib.Seq.{length-take-le, drop-length, take-append_seam, drop-append_seam, drop-append-le, drop-drop}
use Rattle.meaning.specs.declared.Stepped.{Stepped}
use Rattle.meaning.specs.Text.{Bytes, keep}
use Rattle.meaning.specs.Model.{Policy, Result, refused, given}
use Rattle.meaning.specs.Reading.{read}
use Rattle.meaning.specs.Trimming.{lines, strike}
use Rattle.meaning.specs.HeldState.{step_on}
use Rattle.meaning.specs.Claims.PolicyFile.{WellFormed}
use Rattle.meaning.specs.Claims.Refusals.{Refuses}
use Rattle.meaning.specs.Claims.Trimming.{Needless, Trims, none_left, stays}
use Rattle.laws.proofs.Bools.{Test, passed, failed, test}
use Rattle.laws.proofs.WellFormed.{well_formed}
use Rattle.laws.proofs.Refused.{refuses}
use Rattle.laws.proofs.Trimming.{trimmed_steps, steps_end, none_more, steps_settle}
use Rattle.laws.proofs.Answers.{same_end_alike}
use Rattle.laws.proofs.HeldState.{steps_once, after_steps, OnTheWay, on_the_way}
use Rattle.laws.proofs.Operations.{operations}
use Rattle.jogimaduve.proofs.Operate.{StepOperation, Operate, written}
use Rattle.jogimaduve.proofs.Demand3.{told_is, telling}
use Rattle.jogimaduve.proofs.RuleByRule.{text_is}
use Rattle.jogimaduve.proofs.Calls.{Held, text_of, fresh, Call, step, decide, stepped, after_calls, told_by, told_of, steps_in}

abbrev pub step_told : (number second struck : ℕ) → Stepped
step_told n m s = record { number = n; second = m; struck = s }

-- A text that is handed to a step
pub record Steps (o : StepOperation) (f : Bytes) : Type 0 where
  -- one that is refused
  pub no_file : (n m : ℕ) → Refuses f n m → (o.answer f ≡ step_told n m 0) × (o.after f ≡ f)
  -- of a policy file the last needless rule is struck: the text left stands at the start, and what is behind it stays
  pub last_struck : (p : Policy) → WellFormed f p → (k : ℕ) → Needless f k → ((j : ℕ) → k < j → Needless f j → ⊥)
      → (o.answer f ≡ step_told 0 (length (strike k f)) 1) × (o.after f ≡ strike k f ++ drop (length (strike k f)) f)
  -- none is left exactly if no rule is needless, and then nothing changes
  pub none_left : (p : Policy) → WellFormed f p → (o.answer f ≡ step_told 0 (length f) 0) ↔ ((k : ℕ) → Needless f k → ⊥)
  pub unchanged : (o.answer f).struck ≡ 0 → o.after f ≡ f

-- A policy file f with other bytes behind it, after any calls
module _ (o : Operate) (f behind : Bytes) where
  abbrev after : List Call → Held
  after cs = after_calls o (fresh f behind) cs

  abbrev left : List Call → Bytes
  left cs = text_of (after cs)

  -- Trimming strikes the rules of these names from it and comes to t; every policy file has such (`trimmed_steps`, `laws`)
  pub record HeldState (names : List Bytes) (t : Bytes) : Type 0 where
    -- each decision, with its obligations, is the one of the file first read
    pub same_decisions : (cs : List Call) → told_by o (fresh f behind) cs ≡ told_of o f cs
    -- the state is that file without the first rules that trimming strikes, one for each step, or the trimmed policy if there were more
    pub lines_left : (cs : List Call) → lines (left cs) ≡ keep (stays (take (steps_in cs) names)) (lines f)
    pub ends_trimmed : (cs : List Call) → length names ≤ steps_in cs → left cs ≡ t
    -- it is a policy file, from which trimming strikes the other rules and comes to the same text
    pub is_file : (cs : List Call) → (q : Policy) × WellFormed (left cs) q
    pub goes_on : (cs : List Call) → Trims (left cs) (drop (steps_in cs) names) t
    -- a step then says that none is left exactly if no rule is needless, which is if the text is the one that trimming writes; and then
    -- it changes nothing
    pub none_left : (cs : List Call) → (o.step.answer (left cs) ≡ step_told 0 (after cs).size 0) ↔ ((k : ℕ) → Needless (left cs) k → ⊥)
    pub as_trimmed : (cs : List Call) (b : Bytes) → (o.trim.answer f b).number ≡ 0 → (o.step.answer (left cs) ≡ step_told 0 (after cs).size 0) ↔ (left cs ≡ written o.trim f b)
    pub unchanged : (cs : List Call) → (o.step.answer (left cs)).struck ≡ 0 → stepped o (after cs) ≡ after cs
    -- the bytes behind the text that it leaves stay as they were, and those behind the file first read after any calls
    pub behind_text : (cs : List Call) → drop (stepped o (after cs)).size (stepped o (after cs)).memory ≡ drop (stepped o (after cs)).size (after cs).memory
    pub behind_file : (cs : List Call) → drop (length f) (after cs).memory ≡ behind

-- What a step leaves of an accepted text
module _ (o : StepOperation) (f : Bytes) (p : Policy) (h : read f ≡ given p) where
  answers : o.answer f ≡ step_told 0 (length (step_on f).text) (cond (step_on f).struck 1 0)
  answers = o.answer_is f ∙ (operations.steps f p h (step_on f) refl).0

  no_longer : length (step_on f).text ≤ length f
  no_longer = (operations.steps f p h (step_on f) refl).1

  leaves : o.after f ≡ (step_on f).text ++ drop (length (step_on f).text) f
  leaves =
      let (a, b, start, rest) = operations.steps f p h (step_on f) refl in
      o.after_is f ∙ sym (take-append-drop (length (step_on f).text) _) ∙ ap₂ (λ x y. x ++ y) start rest

  -- the number that says whether a rule was struck
  says_none : (o.answer f).struck ≡ 0 → (step_on f).struck ≡ false
  says_none e = go (test (step_on f).struck)
    where
      go : Test (step_on f).struck → (step_on f).struck ≡ false
      go (passed s) = let one : ◌≡◌ {A = ℕ} (cond (step_on f).struck 1 0) 1 = rw s in absurd (omega (arith, one, sym (ap (λ a. a.struck) answers) ∙ e))
      go (failed s) = s

  same_text : (step_on f).struck ≡ false → ((step_on f).text ≡ f) × (o.after f ≡ f)
  same_text s =
      let e = (steps_once f p h).unchanged s in
      (e, leaves ∙ ap (λ t. t ++ drop (length t) f) e ∙ ap (λ t. f ++ t) (drop-length f) ∙ append-nil f)

  -- none is left exactly if no rule is needless
  none_exactly : (o.answer f ≡ step_told 0 (length f) 0) ↔ ((k : ℕ) → Needless f k → ⊥)
  none_exactly = (
    λ e. (steps_once f p h).none_left.0 (says_none (ap (λ a. a.struck) e)),
    λ needed. let s = (steps_once f p h).none_left.1 needed in answers ∙ ap₂ (λ t b. step_told 0 (length t) (cond b 1 0)) (same_text s).0 s,
  )

pub steps_text : (o : StepOperation) (f : Bytes) → Steps o f
steps_text o f = record {
  no_file = λ n m x. let (a, b) = operations.steps_no_file f n m ((refuses f n m).1 x) in (o.answer_is f ∙ a, o.after_is f ∙ b);
  last_struck = λ p w k needless no_later.
      let h = (well_formed f p).1 w in
      let (said, is) = (steps_once f p h).last_struck k needless no_later in
      (answers o f p h ∙ ap₂ (λ t b. step_told 0 (length t) (cond b 1 0)) is said, leaves o f p h ∙ ap (λ t. t ++ drop (length t) f) is);
  none_left = λ p w. none_exactly o f p ((well_formed f p).1 w);
  unchanged = λ e. go (read f) refl e;
}
  where
    go : (r : Result Policy) → read f ≡ r → (o.answer f).struck ≡ 0 → o.after f ≡ f
    go (refused n m) h e = o.after_is f ∙ (operations.steps_no_file f n m h).1
    go (given p) h e = (same_text o f p h (says_none o f p h e)).1

-- A state whose text lies in the memory
abbrev Fits : Held → Type 0
Fits s = s.size ≤ length s.memory

text_size : (s : Held) → Fits s → length (text_of s) ≡ s.size
text_size s fits = length-take-le s.size s.memory fits

-- What a step leaves of a state whose text is accepted: the text that it leaves, and all that is behind it
record OneStep (o : Operate) (s : Held) : Type 0 where
  text : text_of (stepped o s) ≡ (step_on (text_of s)).text
  fits : Fits (stepped o s)
  shorter : (stepped o s).size ≤ s.size
  behind : drop (stepped o s).size (stepped o s).memory ≡ drop (stepped o s).size s.memory

one_step : (o : Operate) (s : Held) → Fits s → (p : Policy) → read (text_of s) ≡ given p → OneStep o s
one_step o s fits p h = record {
  text = ap₂ take size memory ∙ take-append_seam new (drop (length new) (text_of s) ++ rest);
  fits = omega (arith, size, ap length memory, length-append new (drop (length new) (text_of s) ++ rest));
  shorter = omega (arith, size, no_longer o.step (text_of s) p h, text_size s fits);
  behind = ap₂ drop size memory ∙ drop-append_seam new (drop (length new) (text_of s) ++ rest) ∙ sym (ap₂ drop size (sym (take-append-drop s.size s.memory)) ∙ drop-append-le (length new) (text_of s) rest (no_longer o.step (text_of s) p h));
}
  where
    new : Bytes
    new = (step_on (text_of s)).text

    rest : Bytes
    rest = drop s.size s.memory

    size : (stepped o s).size ≡ length new
    size = rw (answers o.step (text_of s) p h)

    memory : (stepped o s).memory ≡ new ++ (drop (length new) (text_of s) ++ rest)
    memory = ap (λ t. t ++ rest) (leaves o.step (text_of s) p h) ∙ append_assoc new (drop (length new) (text_of s)) rest

-- it lies on trimming's way, too
step_on_lem : (o : Operate) (s : Held) {names : List Bytes} {t : Bytes} → Fits s → Trims (text_of s) names t → (p : Policy) → read (text_of s) ≡ given p
    → OneStep o s × Trims (text_of (stepped o s)) (drop 1 names) t × (q : Policy) × (read (text_of (stepped o s)) ≡ given q)
step_on_lem o s {names} {t} fits z p h =
    let one = one_step o s fits p h in
    let way = on_the_way z p h 1 in
    (one, subst (λ g. Trims g (drop 1 names) t) (sym one.text) way.steps, way.policy, ap read one.text ∙ way.is_accepted)

-- a step that says that none is left
nothing_changes : (o : Operate) (s : Held) → Fits s → (p : Policy) → read (text_of s) ≡ given p → (o.step.answer (text_of s)).struck ≡ 0 → stepped o s ≡ s
nothing_changes o s fits p h e =
    let (text, after) = same_text o.step (text_of s) p h (says_none o.step (text_of s) p h e) in
    let memory : (stepped o s).memory ≡ s.memory = ap (λ t. t ++ drop s.size s.memory) after ∙ take-append-drop s.size s.memory in
    let told : (stepped o s).size ≡ length (step_on (text_of s)).text = rw (answers o.step (text_of s) p h) in
    let size : (stepped o s).size ≡ s.size = told ∙ ap length text ∙ text_size s fits in
    λ i. record { memory = memory i; size = size i }

-- What any calls leave of a state: the text of so many steps, and all that is behind the first text
record AfterCalls (o : Operate) (s : Held) (cs : List Call) : Type 0 where
  text : text_of (after_calls o s cs) ≡ after_steps (steps_in cs) (text_of s)
  fits : Fits (after_calls o s cs)
  behind : (k : ℕ) → s.size ≤ k → drop k (after_calls o s cs).memory ≡ drop k s.memory

dropped_alike : (k n : ℕ) (a b : Bytes) → n ≤ k → drop n a ≡ drop n b → drop k a ≡ drop k b
dropped_alike k n a b l e =
    let there : n + (k - n) ≡ k = omega arith in
    ap (λ m. drop m a) (sym there) ∙ sym (drop-drop (k - n) n a) ∙ ap (drop (k - n)) e ∙ drop-drop (k - n) n b ∙ ap (λ m. drop m b) there

after_calls_lem : (o : Operate) (cs : List Call) (s : Held) {names : List Bytes} {t : Bytes} → Fits s → Trims (text_of s) names t → (p : Policy) → read (text_of s) ≡ given p → AfterCalls o s cs
after_calls_lem o [] s fits z p h = record { text = refl; fits = fits; behind = λ k l. refl }
after_calls_lem o (decide r b ∷ cs) s fits z p h = let x = after_calls_lem o cs s fits z p h in record { text = x.text; fits = x.fits; behind = x.behind }
after_calls_lem o (step ∷ cs) s fits z p h =
    let (one, onward, q, i) = step_on_lem o s fits z p h in
    let x = after_calls_lem o cs (stepped o s) one.fits onward q i in
    record {
      text = x.text ∙ ap (after_steps (steps_in cs)) one.text;
      fits = x.fits;
      behind = λ k l. x.behind k (omega (arith, one.shorter)) ∙ dropped_alike k (stepped o s).size (stepped o s).memory s.memory (omega (arith, one.shorter)) one.behind;
    }

-- what the decisions among them are told, of a file f that trimming takes to t as well
told_alike : (o : Operate) (f : Bytes) {names : List Bytes} {t : Bytes} → Trims f names t → (q : Policy) → read f ≡ given q
    → (cs : List Call) (s : Held) {later : List Bytes} → Fits s → Trims (text_of s) later t → (p : Policy) → read (text_of s) ≡ given p → told_by o s cs ≡ told_of o f cs
told_alike o f y q i [] s fits z p h = refl
told_alike o f y q i (decide r b ∷ cs) s fits z p h =
    ap₂ (λ x xs. x ∷ xs) (told_is o (text_of s) r b ∙ ap (telling b) (same_end_alike y z q p i h (length b) r) ∙ sym (told_is o f r b)) (told_alike o f y q i cs s fits z p h)
told_alike o f y q i (step ∷ cs) s fits z p h =
    let (one, onward, r, j) = step_on_lem o s fits z p h in
    told_alike o f y q i cs (stepped o s) one.fits onward r j

pub held_state : (o : Operate) (f behind : Bytes) (p : Policy) → WellFormed f p → (names : List Bytes) (t : Bytes) → Trims f names t → HeldState o f behind names t
held_state o f behind p w names t z = record {
  same_decisions = λ cs. told_alike o f z p h cs (fresh f behind) fits whole_steps p whole_read;
  lines_left = λ cs. ap lines (text cs) ∙ (way cs).lines_left;
  ends_trimmed = λ cs l. text cs ∙ none_more (way cs).steps (omega (arith, length-drop (steps_in cs) names));
  is_file = λ cs. ((way cs).policy, (well_formed (left o f behind cs) (way cs).policy).0 (accepted cs));
  goes_on = onward;
  none_left = none_now;
  as_trimmed = λ cs b d. (
    λ e. (steps_settle (none_left (left o f behind cs) ((none_now cs).0 e)) (onward cs)).1 ∙ sym (written_is b d),
    λ e. (none_now cs).1 (subst (λ g. (k : ℕ) → Needless g k → ⊥) (sym (e ∙ written_is b d)) (steps_end z)),
  );
  unchanged = λ cs e. nothing_changes o (after o f behind cs) (calls cs).fits (way cs).policy (accepted cs) e;
  behind_text = λ cs. (one_step o (after o f behind cs) (calls cs).fits (way cs).policy (accepted cs)).behind;
  behind_file = λ cs. (calls cs).behind (length f) (omega arith) ∙ drop-append_seam f behind;
}
  where
    h : read f ≡ given p
    h = (well_formed f p).1 w

    fits : Fits (fresh f behind)
    fits = omega (arith, length-append f behind)

    whole : text_of (fresh f behind) ≡ f
    whole = take-append_seam f behind

    whole_steps : Trims (text_of (fresh f behind)) names t
    whole_steps = rw whole z

    whole_read : read (text_of (fresh f behind)) ≡ given p
    whole_read = rw whole h

    way : (cs : List Call) → OnTheWay f names t (steps_in cs)
    way cs = on_the_way z p h (steps_in cs)

    calls : (cs : List Call) → AfterCalls o (fresh f behind) cs
    calls cs = after_calls_lem o cs (fresh f behind) fits whole_steps p whole_read

    text : (cs : List Call) → left o f behind cs ≡ after_steps (steps_in cs) f
    text cs = (calls cs).text ∙ ap (after_steps (steps_in cs)) whole

    accepted : (cs : List Call) → read (left o f behind cs) ≡ given (way cs).policy
    accepted cs = ap read (text cs) ∙ (way cs).is_accepted

    onward : (cs : List Call) → Trims (left o f behind cs) (drop (steps_in cs) names) t
    onward cs = rw (text cs) (way cs).steps

    none_now : (cs : List Call) → (o.step.answer (left o f behind cs) ≡ step_told 0 (after o f behind cs).size 0) ↔ ((k : ℕ) → Needless (left o f behind cs) k → ⊥)
    none_now cs = rw (text_size (after o f behind cs) (calls cs).fits) at (none_exactly o.step (left o f behind cs) (way cs).policy (accepted cs))

    -- what trimming writes of it
    written_is : (b : Bytes) → (o.trim.answer f b).number ≡ 0 → written o.trim f b ≡ t
    written_is b d = text_is o f p h b d ∙ (steps_settle (trimmed_steps f p h) z).1
