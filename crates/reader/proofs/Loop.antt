-- Reading line by line: what is left of a file, read behind what was read so far.
use mathlib.Core.Path.{◌≡◌, refl, sym, ap, ◌∙◌, subst⁻¹}
use Prim.Native.Nat.{ℕ, ◌+◌, ◌≤◌, ◌<◌, zero-le}
use native.Mathlib.Omega.{arith}
use mathlib.Core.Bool.{Bool, true, false, cond}
use mathlib.Core.List.{List, [], ◌∷◌}
use lib.Dec.{eqb, lit≤}
use lib.ListN.{length, get_or, drop}
use borrow.Author.Tests.{le-ltb, lt-ltb, eq-eqb, ne_eqb}
use Rattle.std.specs.Prelude.{Result as Told, Ok, Err}
use Rattle.meaning.specs.Text.{Bytes, cut, newline, tab}
use Rattle.meaning.specs.Model.{Policy, Result, refused, given, ◌then◌}
use Rattle.meaning.specs.Reading.{Line, attribute_line, tree_line, obligation_line, other_line, line_of, Sofar, wrong_fields, line_tests, extended, nothing, finished, read}
use Rattle.meaning.specs.Claims.Texts.{All}
use Rattle.refusals.specs.declared.Refused.{Refused}
use Rattle.refusals.specs.declared.Refusal.{Refusal}
use Rattle.refusals.specs.declared.Refusal.TheVariants.{LongFile}
use Rattle.refusals.specs.Numbers.{number_of, answer_of}
use Rattle.refusals.proofs.Numbers.{not_zero}
use Rattle.table.specs.declared.Row.{Row}
use Rattle.layout.specs.declared.ElementPlaces.{ElementPlaces}
use Rattle.layout.specs.Places.{part}
use Rattle.attribute_lines.specs.declared.State.{State}
use Rattle.reader.specs.declared.Policy.{Policy as PolicyRead}
use Rattle.attribute_lines.specs.Sofar.{refusal_by, refusal_of}
use Rattle.attribute_lines.specs.Laid.{Laid, with_line}
use Rattle.reader.specs.Laid.{laid_by, laid_in}
use Rattle.attribute_lines.specs.Steps.{BeforeLine, beginning, read_sofar, laid_at, StepIs}
use Rattle.reader.specs.Told.{ended_at, ReadAs, ReadIs}
use Rattle.attribute_lines.proofs.Parts.{part_length}
use Rattle.reader.proofs.Ends.{ending}
use Rattle.attribute_lines.proofs.Remaining.{lines_at, lines_from, no_line, first_line, none_left, one_refused, one_read, lowest_within}

-- the file from place `at` on, the first of whose lines has number n, behind s
abbrev pub remaining : Bytes → ℕ → ℕ → Sofar → Result Policy
remaining f at n s = lines_from line_tests f at n s then finished

pub all_remains : (f : Bytes) → length f ≤ 16384 → read f ≡ remaining f 0 1 nothing
unfolding read
all_remains f l = rw (le-ltb 16384 (length f) l)

pub too_long : (f : Bytes) → 16384 < length f → read f ≡ refused 1 0
unfolding read
too_long f l = rw (lt-ltb 16384 (length f) l)

module _ (f : Bytes) (at n : ℕ) (s : Sofar) (end : ℕ) (ends : end ≡ at + length (get_or (cut newline (drop at f)) 0 [])) where
  pub no_more : at ≤ length f → end ≡ length f → remaining f at n s ≡ cond (eqb at end) (finished s) (refused 2 n)
  no_more l e = ap (λ r. r then finished) (none_left line_tests f at n s end ends l e) ∙ go (eqb at end)
    where
      go : (b : Bool) → (cond b (given s) (refused 2 n) then finished) ≡ cond b (finished s) (refused 2 n)
      go true = refl
      go false = refl

  -- one line, and what is behind it
  abbrev fields : List Bytes
  fields = cut tab (part f at end)

  pub line_refused : end < length f → (refusal_of s fields ≡ 0 → ⊥) → remaining f at n s ≡ refused (refusal_of s fields) n
  line_refused l h = ap (λ r. r then finished) (one_refused line_tests f at n s end ends l h)

  pub line_read : end < length f → refusal_of s fields ≡ 0 → remaining f at n s ≡ remaining f (end + 1) (n + 1) (extended s (line_of fields))
  line_read l z = ap (λ r. r then finished) (one_read line_tests f at n s end ends l z)

-- a line's refusal is 14 at most
refusal_low : (s : Sofar) (fs : List Bytes) → refusal_of s fs ≤ 14
unfolding refusal_by
refusal_low s fs = lowest_within 14 ((2, wrong_fields s fs (line_of fs)) ∷ line_tests s (line_of fs)) (lit≤ tt, by_line (line_of fs))
  where
    by_line : (l : Line) → All (λ t. t.0 ≤ 14) (line_tests s l)
    by_line (attribute_line a) = (lit≤ tt, (lit≤ tt, (lit≤ tt, (lit≤ tt, tt))))
    by_line (tree_line k d n w ts) = (lit≤ tt, (lit≤ tt, (lit≤ tt, (lit≤ tt, (lit≤ tt, (lit≤ tt, tt))))))
    by_line (obligation_line n w) = (lit≤ tt, (lit≤ tt, (lit≤ tt, (lit≤ tt, tt))))
    by_line other_line = tt

-- What the lines that are left lay down behind those before
module _ (f : Bytes) (at end : ℕ) (x : Laid) (ends : end ≡ at + length (get_or (cut newline (drop at f)) 0 [])) where
  pub none_laid : end ≡ length f → laid_by at x (lines_at f at) ≡ x
  unfolding laid_by
  none_laid e = rw (no_line f at end ends e)

  module _ (inside : end < length f) where
    one_laid : laid_by at x (lines_at f at) ≡ cond (eqb (refusal_of x.sofar (cut tab (part f at end))) 0) (laid_by (end + 1) (with_line at x (line_of (cut tab (part f at end)))) (lines_at f (end + 1))) x
    unfolding laid_by
    one_laid =
        let size : at + length (part f at end) ≡ end = omega (arith, part_length f at end (omega arith)) in
        rw (first_line f at end ends inside, size)

    pub stop_laid : (refusal_of x.sofar (cut tab (part f at end)) ≡ 0 → ⊥) → laid_by at x (lines_at f at) ≡ x
    stop_laid some = one_laid ∙ rw (ne_eqb _ 0 some)

    pub next_laid : refusal_of x.sofar (cut tab (part f at end)) ≡ 0 → laid_by at x (lines_at f at) ≡ laid_by (end + 1) (with_line at x (line_of (cut tab (part f at end)))) (lines_at f (end + 1))
    next_laid none = one_laid ∙ rw (eq-eqb _ 0 none)

-- What the loop keeps: the file reads as the lines that remain behind what was read so far, and lays down what they do
pub record Keeps (f : List ℕ) (table₀ : List Row) (places₀ : List ElementPlaces) (table : List Row) (places : List ElementPlaces) (st : State) : Type 0 where
  pub reads : read f ≡ remaining f st.at st.line (read_sofar f table places st)
  pub lays : laid_in f table₀ places₀ ≡ laid_by st.at (laid_at f table places st) (lines_at f st.at)

pub keeps_first : (f : List ℕ) (table : List Row) (places : List ElementPlaces) → length f ≤ 16384 → read_sofar f table places beginning ≡ nothing → Keeps f table places table places beginning
keeps_first f table places l e = record { reads = all_remains f l ∙ sym (rw e); lays = rw (le-ltb 16384 (length f) l, ← e) }

-- what is told of a file, and what it laid down
told : {f : List ℕ} {table₀ : List Row} {places₀ : List ElementPlaces} {table : List Row} {places : List ElementPlaces} {s : Sofar} {r : Told PolicyRead Refused} → ReadAs f table places r (read f) → laid_in f table₀ places₀ ≡ record { sofar = s; table = table; places = places } → ReadIs f table₀ places₀ table places r
told is lays = record { answer = is; table_is = sym (ap (λ x. x.table) lays); places_are = sym (ap (λ x. x.places) lays) }

-- a refusal of numbers as small as these
refusal_told : (f : List ℕ) (table : List Row) (places : List ElementPlaces) (r : Refused) (n m : ℕ) → read f ≡ refused n m → answer_of r ≡ record { number = n; second = m } → n ≤ 14 → m ≤ 16385 → ReadAs f table places (Err r) (read f)
refusal_told f table places r n m e is low l = subst⁻¹ (ReadAs f table places (Err r)) e (record { is = is; low = low; small = l })

pub long_told : (f : List ℕ) (table : List Row) (places : List ElementPlaces) → 16384 < length f → ReadIs f table places table places (Err (record { why = LongFile; second = 0 }))
long_told f table places l = told {s = nothing} (refusal_told f table places _ 1 0 (too_long f l) refl (lit≤ tt) zero-le) (rw (lt-ltb 16384 (length f) l))

module _ (f : List ℕ) (table₀ : List Row) (places₀ : List ElementPlaces) (table : List Row) (places : List ElementPlaces) (st : State) (ready : BeforeLine f table places st) (size : length f ≤ 16384) (keeps : Keeps f table₀ places₀ table places st)
    (end : ℕ) (ends : end ≡ st.at + length (get_or (cut newline (drop st.at f)) 0 [])) where
  pub few_lines : st.line ≤ 16385
  few_lines = omega (arith, ready.in_file.inside, ready.in_file.lines_passed)

  -- the end of the file
  pub ended : end ≡ length f → {r : Told PolicyRead Refused} → r ≡ ended_at st end → ReadIs f table₀ places₀ table places r
  ended e is =
      let reads = keeps.reads ∙ no_more f st.at st.line (read_sofar f table places st) end ends ready.in_file.inside e in
      told (rw is (subst⁻¹ (ReadAs f table places (ended_at st end)) reads (ending f table places st end ready few_lines e))) (keeps.lays ∙ none_laid f st.at end (laid_at f table places st) ends e)

  -- a line that is refused, and one that is not
  module _ (inside : end < length f) {t : List Row} {p : List ElementPlaces} where
    pub refused_here : {why : Refusal} {after : State} → StepIs f table places t p st end after (Err why) → ReadIs f table₀ places₀ t p (Err (record { why = why; second = after.line }))
    refused_here {why} is-step =
        let s = read_sofar f table places st in
        let fs = cut tab (part f st.at end) in
        let other : (refusal_of s fs ≡ 0 → ⊥) = λ z. not_zero why (is-step.refusal ∙ z) in
        let reads = keeps.reads ∙ line_refused f st.at st.line s end ends inside other ∙ ap (λ k. refused k st.line) (sym is-step.refusal) in
        let same = is-step.stays in
        rw (same.table_is, same.places_are, same.state_is) (told (refusal_told f table places _ (number_of why) st.line reads refl (omega (arith, is-step.refusal, refusal_low s fs)) few_lines) (keeps.lays ∙ stop_laid f st.at end (laid_at f table places st) ends inside other))

    pub keeps_next : {after : State} → StepIs f table places t p st end after (Ok tt) → Keeps f table₀ places₀ t p after
    keeps_next is-step =
        let n = is-step.next in
        let none = sym is-step.refusal in
        record {
          reads = keeps.reads ∙ line_read f st.at st.line (read_sofar f table places st) end ends inside none ∙ sym (rw (n.at_next, n.line_next, ap (λ x. x.sofar) n.laid));
          lays = keeps.lays ∙ next_laid f st.at end (laid_at f table places st) ends inside none ∙ sym (rw (n.at_next, n.laid));
        }
