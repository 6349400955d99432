-- One rule struck after the other: the flags and the places laid down so far, and what is still to come.
use Prim.Native.Nat.{ℕ, zero, suc, ◌+◌, ◌-◌, ◌≤◌, ◌<◌, zero-le}
use mathlib.Core.Path.{◌≡◌, refl, sym, ap, ◌∙◌}
use mathlib.Core.Bool.{true, Bool}
use mathlib.Core.List.{List, [], ◌++◌}
use mathlib.Core.Option.{Option, none, some}
use native.Mathlib.Nat.{zero-add, add-zero}
use native.Mathlib.Numerals.{add-one}
use native.Mathlib.Omega.{arith}
use lib.ListN.{length, drop, set}
use lib.Seq.{sets, sets-eq}
use borrow.Author.Tests.{not-false}
use Rattle.std.specs.Prelude.{Some}
use Rattle.meaning.specs.Text.{Bytes, is_none}
use Rattle.meaning.specs.declared.Element.{Element}
use Rattle.laws.specs.Found.{found}
use Rattle.laws.proofs.Found.{found_some}
use Rattle.laws.proofs.Bools.{and_true, contradiction}
use Rattle.laws.proofs.Search.{first_none, last_some}
use Rattle.laws.proofs.Outcomes.{same_outcome_lem}
use Rattle.table.specs.declared.Row.{Row}
use Rattle.table.specs.Tree.{rule_left}
use Rattle.table.specs.declared.Shape.{Shape}
use Rattle.table.specs.Shape.{hit_of}
use Rattle.blocks.specs.declared.Effects.{Effects}
use Rattle.outcomes.specs.Decided.{decided_at}
use Rattle.obligations.specs.Given.{outcome_left}
use Rattle.trimming.specs.Decided.{changes_at, first_change_at, needless_at, next_at, trimming_at}
use Rattle.trials.specs.Trial.{Laid}
use Rattle.trimming.specs.Trims.{Trims}
use Rattle.trials.proofs.Trying.{ready_set, rule_word}
use Rattle.layout.specs.declared.ElementPlaces.{ElementPlaces}

none_of : (o : Option ℕ) → is_none o ≡ true → o ≡ none
none_of none e = refl
none_of (some m) e = contradiction e refl

-- The next rule to strike
module _ (f : Bytes) (places : List ElementPlaces) (t : List Row) (n : ℕ) (hit : ℕ → Element → Bool) (space : ℕ) (struck : List ℕ) where
  pub record Next (i : ℕ) : Type 0 where
    pub found : next_at f places t n hit space struck ≡ some i
    pub below : i < n
    pub needless : needless_at f places t n hit space struck i ≡ true

  pub next_found : (i : ℕ) → Some i ≡ found (next_at f places t n hit space struck) → Next i
  unfolding next_at
  next_found i told =
      let is : next_at f places t n hit space struck ≡ some i = found_some _ (sym told) in
      let last = last_some (needless_at f places t n hit space struck) n i is in
      record { found = is; below = last.below; needless = last.holds }

  -- nothing is struck where no rule is needless
  pub trimming_stops : (fuel : ℕ) → next_at f places t n hit space struck ≡ none → trimming_at f places t n hit space fuel struck ≡ record { flags = struck; order = [] }
  unfolding trimming_at
  trimming_stops zero e = refl
  trimming_stops (suc fuel) e = rw e

-- A needless rule struck: what was asked of the flags holds again, for every request gets the same
module _ (f : Bytes) (places : List ElementPlaces) (t : List Row) (struck : List ℕ) (s : Shape) (i : ℕ) (needless : needless_at f places t s.n (hit_of s) s.space struck i ≡ true) where
  pub needless_both : (rule_left t struck i ≡ true) × (is_none (first_change_at f places t s.n (hit_of s) s.space struck i) ≡ true)
  unfolding needless_at
  needless_both = and_true (rule_left t struck i) (is_none (first_change_at f places t s.n (hit_of s) s.space struck i)) needless

  pub outcome_same : (m : ℕ) → m < s.space → outcome_left (hit_of s m) f t places struck s.n ≡ outcome_left (hit_of s m) f t places (set struck i 1) s.n
  unfolding first_change_at changes_at
  outcome_same m l =
      let nowhere = none_of (first_change_at f places t s.n (hit_of s) s.space struck i) needless_both.1 in
      let unchanged = first_none (changes_at f places t s.n (hit_of s) struck i) 0 s.space nowhere m zero-le (omega arith) in
      same_outcome_lem _ _ (not-false _ unchanged)

  pub laid_next : (hits : List (List ℕ)) (outcomes : List Effects) → Laid f places t struck hits outcomes s → Laid f places t (set struck i 1) hits outcomes s
  unfolding decided_at
  laid_next hits outcomes laid =
      record {
        steady = laid.steady;
        ready = ready_set i (rule_word t struck i needless_both.0) laid.ready;
        matched = laid.matched;
        holds = record { enough = laid.holds.enough; outcomes_are = λ m l. laid.holds.outcomes_are m l ∙ ap (λ o. o.decision) (outcome_same m l) };
      }

-- From the flags `first` and the places `old`, `count` rules were struck: what is to come completes what striking gives
pub record Strikes (f : Bytes) (places : List ElementPlaces) (t : List Row) (s : Shape) (first old struck order : List ℕ) (count : ℕ) : Type 0 where
  pub flags_left : (trimming_at f places t s.n (hit_of s) s.space (s.n - count) struck).flags ≡ (trimming_at f places t s.n (hit_of s) s.space s.n first).flags
  pub order_left : sets order count (trimming_at f places t s.n (hit_of s) s.space (s.n - count) struck).order ≡ sets old 0 (trimming_at f places t s.n (hit_of s) s.space s.n first).order
  pub count_left : count + length (trimming_at f places t s.n (hit_of s) s.space (s.n - count) struck).order ≡ length (trimming_at f places t s.n (hit_of s) s.space s.n first).order

pub strikes_none : (f : Bytes) (places : List ElementPlaces) (t : List Row) (s : Shape) (first old : List ℕ) → Strikes f places t s first old first old 0
strikes_none f places t s first old = let all : s.n - 0 ≡ s.n = omega arith in record { flags_left = rw all; order_left = rw all; count_left = rw (all, zero-add) }

module _ (f : Bytes) (places : List ElementPlaces) (t : List Row) (s : Shape) (first old struck order : List ℕ) (count : ℕ) (so_far : Strikes f places t s first old struck order count) where
  -- one rule more; `flags` are the flags that `next_rule` gave back
  pub strikes_next : (flags : List ℕ) (i : ℕ) → count < s.n → flags ≡ struck → Next f places t s.n (hit_of s) s.space struck i → Strikes f places t s first old (set flags i 1) (set order count i) (count + 1)
  unfolding trimming_at
  strikes_next flags i more same next =
      let one : s.n - count ≡ suc (s.n - (count + 1)) = omega arith in
      let flags_left = rw (one, next.found) at so_far.flags_left in
      let order_left = rw (one, next.found) at so_far.order_left in
      let count_left = rw (one, next.found) at so_far.count_left in
      rw same record { flags_left = flags_left; order_left = rw add-one (rw add-one at order_left); count_left = omega (arith, count_left) }

  -- no rule more
  pub strikes_end : (flags : List ℕ) (outcomes : List Effects) → flags ≡ struck → trimming_at f places t s.n (hit_of s) s.space (s.n - count) struck ≡ record { flags = struck; order = [] } → count ≤ s.n → s.n ≤ length old
      → {hits : List (List ℕ)} → Laid f places t struck hits outcomes s → Trims f places t outcomes s first flags old order count
  strikes_end flags outcomes same end few room laid =
      let counted : count ≡ length (trimming_at f places t s.n (hit_of s) s.space s.n first).order = sym (add-zero count) ∙ rw end at so_far.count_left in
      let over = sets-eq (trimming_at f places t s.n (hit_of s) s.space s.n first).order old 0 (omega arith) in
      let over-old : sets old 0 (trimming_at f places t s.n (hit_of s) s.space s.n first).order ≡ (trimming_at f places t s.n (hit_of s) s.space s.n first).order ++ drop count old = rw (zero-add, ← counted) at over in
      rw same record { flags_are = rw end at so_far.flags_left; order_is = rw end at so_far.order_left ∙ over-old; count_is = counted; ready = laid.ready; holds = laid.holds }

  pub strikes_all : count ≡ s.n → trimming_at f places t s.n (hit_of s) s.space (s.n - count) struck ≡ record { flags = struck; order = [] }
  unfolding trimming_at
  strikes_all e = let none_left : s.n - count ≡ 0 = omega arith in rw none_left
