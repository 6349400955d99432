-- A rule that is tried, as two lists of flags that are compared: copied flags that leave it, and those that strike it.
use Prim.Native.Nat.{ℕ, ◌≤◌}
use mathlib.Core.Path.{◌≡◌, sym, ap, subst, ◌∙◌}
use mathlib.Core.Bool.{not}
use mathlib.Core.List.{List}
use native.Mathlib.Omega.{arith}
use lib.ListN.{length, length-set}
use Rattle.std.specs.Prelude.{Option}
use Rattle.meaning.specs.Text.{Bytes}
use Rattle.meaning.specs.Deciding.{Outcome, same_outcome}
use Rattle.table.specs.declared.Row.{Row}
use Rattle.table.specs.declared.Shape.{Shape}
use Rattle.table.specs.Shape.{hit_of}
use Rattle.blocks.specs.declared.Effects.{Effects}
use Rattle.moves.specs.Moved.{kept}
use Rattle.outcomes.specs.Decided.{decided_at}
use Rattle.outcomes.specs.Changes.{InBlock}
use Rattle.obligations.specs.Given.{outcome_left}
use Rattle.differences.specs.Apart.{apart, Compared, Suspects}
use Rattle.trials.specs.Decided.{apart_at}
use Rattle.trials.specs.Trial.{Trial, Copied}
use Rattle.trials.proofs.Copying.{outcome_copied, copied_kept}
use Rattle.layout.specs.declared.ElementPlaces.{ElementPlaces}

module _ (f : Bytes) (places : List ElementPlaces) (t : List Row) (struck : List ℕ) (hits : List (List ℕ)) (outcomes : List Effects) (s : Shape) (rule : ℕ) (trial : Trial f places t struck hits outcomes s rule) (copy : List ℕ) (room : s.n ≤ length copy) (copied : Copied struck s.n copy) where
  abbrev before : List ℕ
  before = kept copy rule

  abbrev gets : List ℕ → ℕ → Outcome
  gets flags m = outcome_left (hit_of s m) f t places flags s.n

  flags_agree : Copied (kept struck rule) s.n before
  flags_agree =
      let inside = trial.aside.element in
      copied_kept struck copy s.n rule (omega (arith, trial.aside.ready.flags)) (omega arith) copied

  outcomes_agree : (m : ℕ) → gets before m ≡ gets (kept struck rule) m
  outcomes_agree m = outcome_copied t (kept struck rule) before s.n flags_agree (hit_of s m) trial.aside.ready.some f places

  pub compared : Compared f places t before struck hits outcomes s
  unfolding decided_at
  compared =
      let ready = trial.aside.before in
      record {
        obliged = trial.steady.obliged;
        ready_before = record {
          rows = ready.rows;
          flags = omega (arith, length-set copy rule 0);
          some = ready.some;
          few = ready.few;
          root = ready.root;
          stays = flags_agree 0 ready.some ∙ ready.stays;
          leaves = ready.leaves;
          rules = λ k l set. ready.rules k l (λ e. set (flags_agree k l ∙ e));
          counted = ready.counted;
          positive = ready.positive;
          small = ready.small;
        };
        ready = trial.aside.ready;
        matched = trial.matched;
        holds = record {
          enough = trial.holds.enough;
          outcomes_are = λ m l. trial.holds.outcomes_are m l ∙ ap (λ o. o.decision) (sym (outcomes_agree m));
        };
      }

  -- the same requests get something else
  apart_alike : apart f places t s.n (hit_of s) before struck ≡ apart_at f places t s.n (hit_of s) struck rule
  unfolding apart
  apart_alike = λ i m. not (same_outcome (outcomes_agree m i) (gets struck m))

  pub suspects_copied : (block on : ℕ) → Suspects f places t (kept struck rule) struck s block on → Suspects f places t before struck s block on
  suspects_copied block on suspects m l e off = ap (λ test. test m) apart_alike ∙ suspects m l e off

  pub found_copied : (block : ℕ) (r : Option ℕ) → InBlock (apart f places t s.n (hit_of s) before struck) s.space block r → InBlock (apart_at f places t s.n (hit_of s) struck rule) s.space block r
  found_copied block r = subst (λ test. InBlock test s.space block r) apart_alike
