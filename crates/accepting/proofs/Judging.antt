-- A proposal that flags stand for: what is found by them is what the meaning tells.
use mathlib.Core.Path.{◌≡◌, refl, sym, ap, ap₂, ◌∙◌, subst}
use Prim.Native.Nat.{ℕ, suc, ◌+◌, ◌-◌, ◌≤◌, ◌<◌, zero-le}
use native.Mathlib.Numerals.{add-one}
use native.Mathlib.Omega.{arith}
use mathlib.Core.Bool.{Bool, true, false, not}
use mathlib.Core.List.{List}
use mathlib.Core.Option.{Option, none, some, map}
use lib.ListN.{length, get_or}
use borrow.Author.Tests.{not-false}
use Rattle.std.specs.Prelude.{Option as Found, Some}
use Rattle.meaning.specs.Text.{Bytes, first_from}
use Rattle.meaning.specs.Model.{Policy, given, unless_found}
use Rattle.meaning.specs.Reading.{read}
use Rattle.meaning.specs.Deciding.{same_outcome, outcome}
use Rattle.meaning.specs.Trimming.{lines, first_changed, needless, file_lines}
use Rattle.meaning.specs.Accepting.{first_other, first_needless, judged, accept_file}
use Rattle.meaning.specs.Operations.{answered, accept_answer}
use Rattle.laws.specs.Found.{found}
use Rattle.laws.proofs.Search.{first_some, first_none}
use Rattle.laws.proofs.Outcomes.{same_outcome_lem}
use Rattle.laws.proofs.OtherLines.{none_other}
use Rattle.table.specs.declared.Row.{Row}
use Rattle.table.specs.declared.Shape.{Shape}
use Rattle.table.specs.Shape.{hit_of}
use Rattle.blocks.specs.declared.Effects.{Effects}
use Rattle.outcomes.specs.Decided.{none_struck, decided_at}
use Rattle.outcomes.specs.PolicyTable.{PolicyTable, OutcomesLaid}
use Rattle.outcomes.proofs.Searching.{first_alike}
use Rattle.obligations.specs.Given.{outcome_left}
use Rattle.differences.specs.Apart.{apart, Untouched}
use Rattle.trials.specs.Decided as table-level
use Rattle.trimmed_text.specs.Flags.{left_policy, text_left, needless_at}
use Rattle.trimmed_text.specs.Held.{PolicyHeld}
use Rattle.trimmed_text.proofs.Left.{left_all}
use Rattle.trimmed_text.proofs.Steps.{line_at}
use Rattle.trimmed_text.proofs.Next.{first_flag}
use Rattle.trimmed_text.proofs.Tabled.{outcome_is, needless_is}
use Rattle.trimmed_text.proofs.Whole.{none_clear}
use Rattle.trimmed_text.proofs.Held.{sizes}
use Rattle.left_out.specs.Leaving.{leaving}
use Rattle.left_out.proofs.Flags.{RulesLeft, flags_left, whole_left}
use Rattle.accepting.specs.Judged.{lines_from, told_by, judged_at}
use Rattle.accepting.proofs.Lines.{line_is}
use Rattle.layout.specs.declared.ElementPlaces.{ElementPlaces}

-- a search from place i on, of n in all
module _ (test : ℕ → Bool) (n i : ℕ) where
  pub first_here : i < n → test i ≡ true → first_from test i (n - i) ≡ some i
  first_here l e = let more : n - i ≡ suc (n - (i + 1)) = omega arith in rw (more, e)

  pub first_later : i < n → test i ≡ false → first_from test i (n - i) ≡ first_from test (i + 1) (n - (i + 1))
  first_later l e = let more : n - i ≡ suc (n - (i + 1)) = omega arith in rw (more, e) (ap (λ k. first_from test k (n - (i + 1))) (sym (add-one i)))

  pub first_nowhere : n ≤ i → first_from test i (n - i) ≡ none
  first_nowhere l = let none_left : n - i ≡ 0 = omega arith in rw none_left

-- Flags, by which requests and rules are looked at
module _ (f : Bytes) (places : List ElementPlaces) (table : List Row) (s : Shape) (struck : List ℕ) where
  abbrev differs : ℕ → Bool
  differs = apart f places table s.n (hit_of s) none_struck struck

  abbrev pub requests : Option ℕ
  requests = first_from differs 0 s.space

  abbrev pub rules : Option ℕ
  rules = first_from (table-level.needless_at f places table s.n (hit_of s) s.space struck) 0 s.n

  pub request_below : (m : ℕ) → requests ≡ some m → m < s.space
  request_below m e = omega (arith, (first_some differs 0 s.space m e).high)

  pub rule_below : (i : ℕ) → rules ≡ some i → i < s.n
  rule_below i e = omega (arith, (first_some (table-level.needless_at f places table s.n (hit_of s) s.space struck) 0 s.n i e).high)

  -- no request differs where none was found among them
  pub no_request : {first : Found ℕ} → first ≡ found requests → ((m : ℕ) → first ≡ Some m → m < s.space → ⊥) → requests ≡ none
  no_request is never_found = go requests refl
    where
      go : (o : Option ℕ) → requests ≡ o → requests ≡ none
      go none e = e
      go (some m) e = absurd (never_found m (is ∙ ap found e) (request_below m e))

  -- where no request differs, the decisions laid down are those under the flags too
  pub same_laid : requests ≡ none → (outcomes : List Effects) → OutcomesLaid table none_struck outcomes s → OutcomesLaid table struck outcomes s
  unfolding apart decided_at
  same_laid none-differs outcomes laid =
      record {
        enough = laid.enough;
        outcomes_are = λ m l.
            let same = same_outcome_lem (outcome_left (hit_of s m) f table places none_struck s.n) (outcome_left (hit_of s m) f table places struck s.n) (not-false _ (first_none differs 0 s.space none-differs m zero-le (omega arith))) in
            laid.outcomes_are m l ∙ ap (λ o. o.decision) same;
      }

  -- and what is told by them
  pub told_request : (r : ℕ) → requests ≡ some r → record { number = 17; second = r } ≡ judged_at f places table s struck
  unfolding judged_at
  told_request r is = rw is

  pub told_none : requests ≡ none → rules ≡ none → record { number = 0; second = 0 } ≡ judged_at f places table s struck
  unfolding judged_at
  told_none a b = rw (a, b)

  pub told_rule : requests ≡ none → (i : ℕ) → rules ≡ some i → (after : List ℕ) → after ≡ struck → (line : ℕ) → line ≡ suc (s.len + lines_from places after 0 i) → record { number = 18; second = line } ≡ judged_at f places table s struck
  unfolding judged_at
  told_rule a i b after same line is = let told = is ∙ ap (λ flags. suc (s.len + lines_from places flags 0 i)) same in rw (a, b) (λ j. record { number = 18; second = told j })

module _ (f : List ℕ) (table : List Row) (places : List ElementPlaces) (s : Shape) (held : PolicyHeld f table places s) (g : Bytes) (flags : List ℕ) (left : RulesLeft f table places s held flags) (text : g ≡ text_left f held.policy flags) where
  abbrev p : Policy
  p = held.policy

  abbrev h : read f ≡ given p
  h = held.is_read

  abbrev q : Policy
  q = left_policy p flags

  proposal_read : read g ≡ given q
  proposal_read = ap read text ∙ left.stands_so.accepts

  no_other : first_other 1 (file_lines f) (file_lines g) ≡ none
  no_other = ap (λ t. first_other 1 (file_lines f) (file_lines t)) text ∙ none_other (file_lines f) (file_lines (text_left f p flags)) left.leaves

  whole_policy : left_policy p none_struck ≡ p
  whole_policy = λ i. record { attributes = p.attributes; elements = left_all none_struck none_clear 0 p.elements i }

  gets : (struck : List ℕ) → get_or struck 0 0 ≡ 0 → (m : ℕ) → outcome_left (hit_of s m) f table places struck s.n ≡ outcome (left_policy p struck) m
  gets = outcome_is f p h table places s.n held.elements (sizes f table places s held) (hit_of s) s.space held.hits_are held.space_is

  changed_is : first_changed (given p) (given q) ≡ requests f places table s flags
  unfolding apart
  changed_is =
      let each : (m : ℕ) → differs f places table s flags m ≡ not (same_outcome (outcome p m) (outcome q m)) =
      λ m. ap₂ (λ a b. not (same_outcome a b)) (gets none_struck refl m ∙ ap (λ x. outcome x m) whole_policy) (gets flags left.ready.stays m) in
      sym (λ j. first_from (λ m. each m j) 0 (held.space_is j))

  needless_is_first : first_from (needless g) 0 (length (lines g)) ≡ map (line_at p flags) (rules f places table s flags)
  needless_is_first =
      let size = sizes f table places s held in
      ap (λ t. first_from (needless t) 0 (length (lines t))) text
      ∙ first_flag f p h flags left.stands_so
      ∙ ap (map (line_at p flags))
      (ap (first_from (needless_at p flags) 0) size
      ∙ sym (first_alike (table-level.needless_at f places table s.n (hit_of s) s.space flags) (needless_at p flags) 0 s.n (λ i l u. needless_is f p h table places s.n held.elements size (hit_of s) s.space held.hits_are held.space_is flags left.ready.stays i (omega arith))))

  pub judged_so : judged_at f places table s flags ≡ accept_answer f g
  unfolding judged_at judged accept_file
  judged_so = sym (rw (h, proposal_read, no_other, changed_is) (go (requests f places table s flags) (rules f places table s flags) refl))
    where
      go : (c o : Option ℕ) → rules f places table s flags ≡ o → answered (λ t. 0) (unless_found 17 c (unless_found 18 (first_needless g) (given g))) ≡ told_by places flags s.len c o
      go (some m) o e = refl
      go none none e = rw (needless_is_first, e)
      go none (some i) e = rw (needless_is_first, e) (λ j. record { number = 18; second = suc (line_is f table places s held flags i (le i e) j) })
        where
          le : (i : ℕ) → rules f places table s flags ≡ some i → i ≤ s.n
          le i e = omega (arith, rule_below f places table s flags i e)

-- The flags that a proposal leaves, which is matched to its end
module _ (f : List ℕ) (table : List Row) (places : List ElementPlaces) (s : Shape) (held : PolicyHeld f table places s) (g : Bytes) (flags : List ℕ) (are : flags ≡ (leaving f places table s.n g none_struck).flags) where
  left_so : RulesLeft f table places s held flags
  left_so = subst (RulesLeft f table places s held) (sym are) (flags_left f table places s held g)

  -- what judging asks of them
  pub ready_left : PolicyTable table flags s × Untouched f places table none_struck flags s
  ready_left = (left_so.ready, left_so.untouched)

  pub judged_whole : (leaving f places table s.n g none_struck).whole ≡ true → judged_at f places table s flags ≡ accept_answer f g
  judged_whole whole = judged_so f table places s held g flags left_so (whole_left f table places s held g whole ∙ ap (text_left f held.policy) (sym are))
