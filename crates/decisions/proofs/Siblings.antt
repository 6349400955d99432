-- A rule and the elements beside it: they give the same whether it is struck or not.
use Prim.Native.Nat.{ℕ, zero, suc, ◌+◌, ◌-◌, ◌≤◌, ◌<◌}
use mathlib.Core.Path.{◌≡◌, refl, ap}
use mathlib.Core.Logic.{◌≢◌}
use mathlib.Core.Bool.{Bool}
use mathlib.Core.List.{List, []}
use native.Mathlib.Omega.{arith}
use lib.Dec.{eqb}
use lib.ListN.{length, get_or, set}
use lib.Seq.{get_or-set_same, get_or-set_other}
use borrow.Author.Tests.{eqb-true, eqb-false}
use Rattle.meaning.specs.declared.Element.{Element}
use Rattle.meaning.specs.Deciding.{reply, child_replies}
use Rattle.laws.proofs.Bools.{Test, passed, failed, test}
use Rattle.table.specs.declared.Row.{Row}
use Rattle.table.specs.Rows.{depth_of, element_at, word_number}
use Rattle.table.specs.Tree.{left, Leaves, RulesStruck}
use Rattle.decisions.specs.Replies.{replies_from, reply_at}
use Rattle.decisions.proofs.Children.{below}
use Rattle.decisions.proofs.Leaves.{none_within, first_within, left_behind}

-- Rule i, which is left under the flags `struck`
module _ (hit : Element → Bool) (t : List Row) (struck : List ℕ) (n i : ℕ) (leaves : Leaves t n) (rules : RulesStruck t struck n) where
  abbrev without : List ℕ
  without = set struck i 1

  -- behind it
  pub replies_behind : (d j : ℕ) → i < j → replies_from hit t without n d j ≡ replies_from hit t struck n d j
  unfolding replies_from
  replies_behind d j l = ap (child_replies hit d) (left_behind hit t struck n i leaves rules (n - j) j l)

  pub reply_behind : (j : ℕ) → i ≤ j → reply_at hit t without n j ≡ reply_at hit t struck n j
  unfolding reply_at
  reply_behind j l = ap (reply hit (element_at t j)) (replies_behind (suc (depth_of t j)) (j + 1) (omega arith))

  module _ (room : n ≤ length struck) (inside : i < n) (live : get_or struck i 0 ≡ 0) (rule : word_number t i < 2) where
    -- it ends the children that are deeper, and so does what stands behind it
    ended : (d k : ℕ) → suc i + k ≡ n → depth_of t i < d → child_replies hit d (left t struck (i + 1) k) ≡ []
    ended d k e deep = none_within hit (depth_of t i) d (left t struck (i + 1) k) (first_within hit t struck n i leaves rules (depth_of t i) k i e rule (omega arith)) deep

    deeper_same : (k d j : ℕ) → j + k ≡ n → j ≤ i → depth_of t i < d → child_replies hit d (left t without j k) ≡ child_replies hit d (left t struck j k)
    unfolding left element_at
    deeper_same zero d j e l deep = refl
    deeper_same (suc k) d j e l deep = go (test (eqb j i)) (test (eqb (get_or struck j 0) 0)) (λ d. deeper_same k d (j + 1) (omega arith))
      where
        go : Test (eqb j i) → Test (eqb (get_or struck j 0) 0) → ((d : ℕ) → j + 1 ≤ i → depth_of t i < d → child_replies hit d (left t without (j + 1) k) ≡ child_replies hit d (left t struck (j + 1) k))
            → child_replies hit d (left t without j (suc k)) ≡ child_replies hit d (left t struck j (suc k))
        go (passed x) _ further =
            let i-is : j ≡ i = eqb-true j i x in
            rw (i-is, live, get_or-set_same struck i 1 0 (omega arith), left_behind hit t struck n i leaves rules k (i + 1) (omega arith), ended d k (omega arith) deep, below (depth_of t i) d deep)
        go (failed x) (passed y) further =
            let other : j ≢ i = eqb-false j i x in
            rw (get_or-set_other struck i j 1 0 other, y, further d (omega arith) deep, further (suc d) (omega arith) (omega arith))
        go (failed x) (failed y) further =
            let other : j ≢ i = eqb-false j i x in
            rw (get_or-set_other struck i j 1 0 other, y) (further d (omega arith) deep)

    -- before it, and no less deep
    pub reply_before : (j : ℕ) → j < i → depth_of t i ≤ depth_of t j → reply_at hit t without n j ≡ reply_at hit t struck n j
    unfolding reply_at replies_from
    reply_before j l deep = ap (reply hit (element_at t j)) (deeper_same (n - (j + 1)) (suc (depth_of t j)) (j + 1) (omega arith) (omega arith) (omega arith))
