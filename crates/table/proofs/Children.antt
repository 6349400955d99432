-- The elements that are left from a place on, and the next child among them, place by place.
use Prim.Native.Nat.{ℕ, suc, ◌+◌, ◌-◌, ◌≤◌, ◌<◌}
use mathlib.Core.Path.{◌≡◌, ◌∙◌}
use mathlib.Core.Bool.{and-false}
use mathlib.Core.List.{List, ◌∷◌}
use mathlib.Core.Option.{none, some}
use native.Mathlib.Numerals.{add-one}
use native.Mathlib.Omega.{arith}
use lib.ListN.{get_or, set}
use borrow.Author.Tests.{eq-eqb, ne_eqb, le-leb, lt-leb, eqb-true, eqb-false}
use lib.Dec.{eqb}
use lib.Seq.{get_or-set_other}
use Rattle.laws.proofs.Bools.{Test, passed, failed, test}
use Rattle.table.specs.declared.Row.{Row}
use Rattle.table.specs.Rows.{depth_of, element_at, word_number}
use Rattle.table.specs.Tree.{left, next_child, RulesStruck}

-- Element i, of the first n
module _ (t : List Row) (struck : List ℕ) (n i : ℕ) where
  pub left_struck : i < n → (get_or struck i 0 ≡ 0 → ⊥) → left t struck i (n - i) ≡ left t struck (i + 1) (n - (i + 1))
  unfolding left
  left_struck l flag = let e : n - i ≡ suc (n - (i + 1)) = omega arith in rw (e, ne_eqb (get_or struck i 0) 0 flag)

  pub left_here : i < n → get_or struck i 0 ≡ 0 → left t struck i (n - i) ≡ element_at t i ∷ left t struck (i + 1) (n - (i + 1))
  unfolding left
  left_here l flag = let e : n - i ≡ suc (n - (i + 1)) = omega arith in rw (e, eq-eqb (get_or struck i 0) 0 flag)

  -- the search for a child of depth d
  module _ (d : ℕ) where
    pub child_none : n ≤ i → next_child t struck n d i ≡ none
    unfolding next_child
    child_none l = let e : n - i ≡ 0 = omega arith in rw e

    module _ (l : i < n) where
      one_more : n - i ≡ suc (n - (i + 1))
      one_more = omega arith

      pub passes_struck : (get_or struck i 0 ≡ 0 → ⊥) → next_child t struck n d i ≡ next_child t struck n d (i + 1)
      unfolding next_child
      passes_struck flag = rw (one_more, ne_eqb (get_or struck i 0) 0 flag, add-one i)

      pub passes_deeper : d < depth_of t i → next_child t struck n d i ≡ next_child t struck n d (i + 1)
      unfolding next_child
      passes_deeper deep = rw (one_more, lt-leb (depth_of t i) d deep, and-false, add-one i)

      pub child_here : get_or struck i 0 ≡ 0 → depth_of t i ≡ d → next_child t struck n d i ≡ some i
      unfolding next_child
      child_here live child = rw (one_more, eq-eqb (get_or struck i 0) 0 live, le-leb (depth_of t i) d (omega arith), eq-eqb (depth_of t i) d child)

      pub child_behind : get_or struck i 0 ≡ 0 → depth_of t i < d → next_child t struck n d i ≡ none
      unfolding next_child
      child_behind live behind = rw (one_more, eq-eqb (get_or struck i 0) 0 live, le-leb (depth_of t i) d (omega arith), ne_eqb (depth_of t i) d (omega arith))

-- Only rules are struck: where nothing is struck, and with one rule more
pub none_struck : (t : List Row) (struck : List ℕ) (n : ℕ) → ((k : ℕ) → k < n → get_or struck k 0 ≡ 0) → RulesStruck t struck n
none_struck t struck n live k l flag = absurd (flag (live k l))

pub rule_struck : (t : List Row) (struck : List ℕ) (n i : ℕ) → RulesStruck t struck n → word_number t i < 2 → RulesStruck t (set struck i 1) n
rule_struck t struck n i rules rule k l flag = go (test (eqb k i))
  where
    go : Test (eqb k i) → word_number t k < 2
    go (passed e) = rw (eqb-true k i e) rule
    go (failed e) = rules k l (λ live. flag (get_or-set_other struck i k 1 0 (eqb-false k i e) ∙ live))
