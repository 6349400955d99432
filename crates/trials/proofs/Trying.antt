-- Whether a rule is needless, by what requests get without it.
use Prim.Native.Nat.{ℕ, ◌≤◌, ◌<◌, zero-le}
use mathlib.Core.Path.{◌≡◌, refl, sym, ap, subst, ◌∙◌}
use mathlib.Core.Bool.{Bool, true, false, not}
use mathlib.Core.List.{List}
use mathlib.Core.Option.{Option, none, some}
use native.Mathlib.Omega.{arith}
use lib.Dec.{eqb, ltb}
use lib.ListN.{length, get_or, set, length-set}
use lib.Seq.{get_or-set_same, get_or-set_other, set-set, set-get_or}
use borrow.Author.Tests.{eqb-true, ltb-true}
use Rattle.std.specs.Prelude.{Option as Found, Some, None}
use Rattle.meaning.specs.Text.{Bytes, is_none, first_from}
use Rattle.meaning.specs.Deciding.{same_outcome}
use Rattle.laws.proofs.Bools.{contradiction, and_true}
use Rattle.laws.specs.Found.{found}
use Rattle.laws.proofs.Found.{found_some, found_none}
use Rattle.laws.proofs.Search.{first_some, first_none}
use Rattle.table.specs.declared.Row.{Row}
use Rattle.table.specs.Rows.{word_number}
use Rattle.table.specs.Tree.{rule_left}
use Rattle.table.specs.declared.Shape.{Shape}
use Rattle.table.specs.Shape.{hit_of}
use Rattle.table.proofs.Children.{rule_struck}
use Rattle.blocks.specs.declared.Effects.{Effects}
use Rattle.outcomes.specs.PolicyTable.{PolicyTable, OutcomesLaid}
use Rattle.outcomes.proofs.Searching.{first_alike}
use Rattle.obligations.specs.Given.{outcome_left}
use Rattle.differences.specs.Apart.{apart}
use Rattle.differences.proofs.Apart as differences
use Rattle.trials.specs.Decided.{changes_at, apart_at, first_change_at, shown_at, needless_at}
use Rattle.trials.specs.Steady.{Aside, Steady}
use Rattle.trials.specs.declared.Tried.TheVariants.{Needed}
use Rattle.trials.specs.Trial.{Laid, Trial, Tries, Tells}
use Rattle.layout.specs.declared.ElementPlaces.{ElementPlaces}

-- Whether a search finds nothing, by the number that it gives, or by any that passes
module _ (p : ℕ → Bool) (size : ℕ) where
  pub tries_first : (o : Found ℕ) → o ≡ found (first_from p 0 size) → Tries p size o
  tries_first None e = found_none (first_from p 0 size) (sym e)
  tries_first (Some m) e = let first = first_some p 0 size m (found_some (first_from p 0 size) (sym e)) in (omega (arith, first.high), first.holds)

  pub one_shown : (r : ℕ) → r < size → p r ≡ true → is_none (first_from p 0 size) ≡ false
  one_shown r l passes = go (first_from p 0 size) refl
    where
      go : (o : Option ℕ) → first_from p 0 size ≡ o → is_none (first_from p 0 size) ≡ false
      go none e = contradiction passes (first_none p 0 size e r zero-le (omega arith))
      go (some m) e = ap is_none e

-- a rule is not the first element
pub rule_first : (t : List Row) (i : ℕ) → word_number t i < 2 → 2 ≤ word_number t 0 → i ≡ 0 → ⊥
rule_first t i rule root first = let word : word_number t 0 < 2 = rw first at rule in omega arith

-- Element i, which is a rule, is struck
pub ready_set : {t : List Row} {struck : List ℕ} {s : Shape} (i : ℕ) → word_number t i < 2 → PolicyTable t struck s → PolicyTable t (set struck i 1) s
ready_set {t} {struck} {s} i rule ready =
    record {
      rows = ready.rows;
      flags = omega (arith, length-set struck i 1, ready.flags);
      some = ready.some;
      few = ready.few;
      root = ready.root;
      stays = get_or-set_other struck i 0 1 0 (λ first. rule_first t i rule ready.root (sym first)) ∙ ready.stays;
      leaves = ready.leaves;
      rules = rule_struck t struck s.n i ready.rules rule;
      counted = ready.counted;
      positive = ready.positive;
      small = ready.small;
    }

-- and its flag set back
pub set_back : (struck : List ℕ) (i flag : ℕ) → get_or struck i 0 ≡ flag → set (set struck i 1) i flag ≡ struck
set_back struck i flag e = set-set struck i 1 flag ∙ ap (set struck i) (sym e) ∙ set-get_or struck i 0

-- Element i, which is left: what is apart with its flag set is what changes without it
module _ (f : Bytes) (places : List ElementPlaces) (t : List Row) (struck : List ℕ) (s : Shape) (i : ℕ) (live : get_or struck i 0 ≡ 0) where
  abbrev parted : ℕ → Bool
  parted = apart_at f places t s.n (hit_of s) (set struck i 1) i

  pub apart_changes : (m : ℕ) → parted m ≡ changes_at f places t s.n (hit_of s) struck i m
  unfolding apart changes_at
  apart_changes m =
      ap (λ flags. not (same_outcome (outcome_left (hit_of s m) f t places flags s.n) (outcome_left (hit_of s m) f t places (set struck i 1) s.n))) (set_back struck i 0 live)

  first_changes : first_from parted 0 s.space ≡ first_change_at f places t s.n (hit_of s) s.space struck i
  unfolding first_change_at
  first_changes = first_alike _ _ 0 s.space (λ m low high. apart_changes m)

  pub first_change_is : (o : Found ℕ) → o ≡ found (first_from parted 0 s.space) → o ≡ found (first_change_at f places t s.n (hit_of s) s.space struck i)
  first_change_is o e = e ∙ ap found first_changes

  -- what a request that changes, or none, tells of a rule
  pub rule_needless : rule_left t struck i ≡ true → first_from parted 0 s.space ≡ none → needless_at f places t s.n (hit_of s) s.space struck i ≡ true
  unfolding needless_at
  rule_needless rule e = rw rule (ap is_none (sym first_changes ∙ e))

  pub rule_needed : rule_left t struck i ≡ true → (m : ℕ) → m < s.space → parted m ≡ true → Tells f places t struck s i (Needed m)
  unfolding needless_at
  rule_needed rule m l e = (rw rule (sym (ap is_none first_changes) ∙ one_shown parted s.space m l e), l, sym (apart_changes m) ∙ e)

-- A rule that is left has the flag 0, and the word of an effect
module _ (t : List Row) (struck : List ℕ) (i : ℕ) (rule : rule_left t struck i ≡ true) where
  pub rule_flag : get_or struck i 0 ≡ 0
  rule_flag = eqb-true (get_or struck i 0) 0 (and_true (eqb (get_or struck i 0) 0) (ltb (word_number t i) 2) rule).0

  pub rule_word : word_number t i < 2
  rule_word = ltb-true (word_number t i) 2 (and_true (eqb (get_or struck i 0) 0) (ltb (word_number t i) 2) rule).1

  -- it may be struck
  pub aside : (s : Shape) → PolicyTable t struck s → i < s.n → Aside t (set struck i 1) s i
  aside s ready l =
      record {
        ready = ready_set i rule_word ready;
        before = subst (λ flags. PolicyTable t flags s) (sym (set_back struck i 0 rule_flag)) ready;
        element = l;
        effect = rule_word;
        flag = get_or-set_same struck i 1 0 (omega (arith, ready.flags));
      }

  -- it is tried by its flag
  pub trial : (f : Bytes) (places : List ElementPlaces) (hits : List (List ℕ)) (outcomes : List Effects) (s : Shape) → Laid f places t struck hits outcomes s → i < s.n → Trial f places t (set struck i 1) hits outcomes s i
  trial f places hits outcomes s laid l =
      record {
        steady = laid.steady;
        aside = aside s laid.ready l;
        matched = laid.matched;
        holds = subst (λ flags. OutcomesLaid t flags outcomes s) (sym (set_back struck i 0 rule_flag)) laid.holds;
      }

-- An element that is no rule left, and the request shown for each
module _ (f : Bytes) (places : List ElementPlaces) (t : List Row) (struck : List ℕ) (s : Shape) (i : ℕ) where
  pub needless_other : rule_left t struck i ≡ false → needless_at f places t s.n (hit_of s) s.space struck i ≡ false
  unfolding needless_at
  needless_other other = rw other

  pub shown_rule : rule_left t struck i ≡ true → shown_at f places t s.n (hit_of s) s.space struck i ≡ first_change_at f places t s.n (hit_of s) s.space struck i
  unfolding shown_at
  shown_rule rule = rw rule

  pub shown_other : rule_left t struck i ≡ false → shown_at f places t s.n (hit_of s) s.space struck i ≡ none
  unfolding shown_at
  shown_other other = rw other

-- Flags that are those of the start
pub asks : {f : Bytes} {places : List ElementPlaces} {t : List Row} {first struck : List ℕ} {hits : List (List ℕ)} {outcomes : List Effects} {s : Shape} → struck ≡ first → Laid f places t first hits outcomes s → Laid f places t struck hits outcomes s
asks same laid = rw same laid

-- The places have room for the obligations of all elements
pub obligation_room : {f : Bytes} {places : List ElementPlaces} {t : List Row} {struck : List ℕ} {s : Shape} → Steady f places t s → PolicyTable t struck s → s.n ≤ length places
obligation_room steady ready = differences.obligation_room steady.obliged ready
