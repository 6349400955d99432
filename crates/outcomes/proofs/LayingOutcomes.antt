-- What each request gets, laid down block by block.
use Prim.Native.Nat.{ℕ, ◌+◌, ◌*◌, ◌/◌, ◌%◌, ◌≤◌, ◌<◌}
use mathlib.Core.Path.{◌≡◌, refl, ◌∙◌}
use mathlib.Core.List.{List}
use native.Mathlib.Omega.{arith}
use lib.Dec.{eqb}
use lib.ListN.{length, drop, set, length-set}
use lib.Seq.{get_or-set_same, get_or-set_other}
use borrow.Author.Tests.{eqb-true, eqb-false, le-leb, lt-leb}
use Rattle.std.proofs.lemmas.List.{drop-set-lt}
use Rattle.meaning.specs.declared.Decision.{Decision}
use Rattle.laws.proofs.Bools.{Test, passed, failed, test}
use Rattle.table.specs.declared.Row.{Row}
use Rattle.table.specs.declared.Shape.{Shape}
use Rattle.blocks.specs.declared.Effects.{Effects}
use Rattle.blocks.specs.Bits.{decision_bit}
use Rattle.outcomes.specs.Decided.{no_effects, outcome_at}
use Rattle.outcomes.specs.PolicyTable.{OutcomesLaid, OutcomesRest}
use Rattle.outcomes.proofs.Blocks.{outcome_up_to}

-- the effects on the blocks before `block` tell what f gives on each request, and those behind are as they were
pub record OutcomesTo (f : ℕ → Decision) (old outcomes : List Effects) (block : ℕ) : Type 0 where
  pub size : length outcomes ≡ length old
  pub done : (m : ℕ) → m < 64 * block → outcome_at outcomes m ≡ f m
  pub behind : (k : ℕ) → block ≤ k → drop k outcomes ≡ drop k old

pub outcomes_none : (f : ℕ → Decision) (old : List Effects) → OutcomesTo f old old 0
outcomes_none f old = record { size = refl; done = λ m l. absurd (omega arith); behind = λ k l. refl }

-- one block more
pub outcomes_next : {f : ℕ → Decision} {old outcomes next : List Effects} {block : ℕ} (e : Effects) → next ≡ set outcomes block e
    → ((m : ℕ) → m / 64 ≡ block → decision_bit e (m % 64) ≡ f m) → block < length outcomes → OutcomesTo f old outcomes block → OutcomesTo f old next (block + 1)
outcomes_next {f} {old} {outcomes} {next} {block} e is here room so_far =
    rw is
    record {
      size = length-set outcomes block e ∙ so_far.size;
      done = λ m more. go m more (test (eqb (m / 64) block));
      behind = λ k l. drop-set-lt k outcomes block e (omega arith) ∙ so_far.behind k (omega arith);
    }
  where
    go : (m : ℕ) → m < 64 * (block + 1) → Test (eqb (m / 64) block) → outcome_at (set outcomes block e) m ≡ f m
    go m more (passed same) =
        let at = eqb-true (m / 64) block same in
        rw (at, get_or-set_same outcomes block e no_effects room) (here m at)
    go m more (failed other) =
        let apart : (m / 64 ≡ block → ⊥) = eqb-false (m / 64) block other in
        rw (get_or-set_other outcomes block (m / 64) e no_effects apart) (so_far.done m (omega arith))

-- all blocks of a policy
module _ (t : List Row) (struck : List ℕ) (s : Shape) (old outcomes : List Effects) (block : ℕ) (all : OutcomesTo (outcome_up_to t struck s) old outcomes block) (end : s.space ≤ 64 * block) (last : 64 * block < s.space + 64) where
  pub outcomes_laid : 64 ≤ length outcomes → OutcomesLaid t struck outcomes s
  outcomes_laid room = record { enough = room; outcomes_are = λ m l. all.done m (omega arith) ∙ rw (lt-leb s.space m l) }

  pub outcomes_rest : OutcomesRest s.space old outcomes
  outcomes_rest =
      record {
        same_length = all.size;
        clear = λ m past l. all.done m (omega arith) ∙ rw (le-leb s.space m past);
        behind = all.behind _ (omega arith);
      }
