-- A rule and its siblings: the children of the element over them with the rule, which is kept, and without it, which is struck.
use Prim.Native.Nat.{ℕ, zero, suc, ◌+◌, ◌≤◌, ◌<◌}
use mathlib.Core.Path.{◌≡◌, refl, sym, ap, subst, ◌∙◌}
use mathlib.Core.Logic.{◌≢◌}
use mathlib.Core.Bool.{Bool, true, false}
use mathlib.Core.List.{List, ◌∷◌}
use native.Mathlib.Omega.{arith}
use lib.Dec.{eqb}
use lib.ListN.{length, get_or, set, length-set}
use lib.Seq.{get_or-set_same, get_or-set_other, set-set, set-get_or}
use borrow.Author.Tests.{eqb-true, eqb-false}
use Rattle.meaning.specs.declared.Element.{Element}
use Rattle.meaning.specs.Deciding.{Reply as ChildReply, combined}
use Rattle.laws.proofs.Bools.{Test, passed, failed, test}
use Rattle.table.specs.declared.Row.{Row}
use Rattle.table.specs.Rows.{algorithm_at, depth_of, element_at, word_number, word_at}
use Rattle.decisions.specs.Replies.{step_of, replies_from, reply_at}
use Rattle.decisions.proofs.Combining.{same_so_far, still_unchanged}
use Rattle.decisions.proofs.Children.{replies_struck, replies_deeper, replies_step}
use Rattle.decisions.proofs.Leaves.{replies_without}
use Rattle.decisions.proofs.Siblings.{replies_behind, reply_before}
use Rattle.moves.specs.Moved.{effect_reply, kept, Child}
use Rattle.moves.proofs.Rules.{rule_reply}

module _ (hit : Element → Bool) (t : List Row) (struck : List ℕ) (n up rule a : ℕ) (child : Child t struck n up rule) (room : n ≤ length struck) where
  -- from a place on, with the rule and without it
  abbrev pub with_rule : ℕ → List ChildReply
  with_rule at = replies_from hit t (kept struck rule) n (depth_of t rule) at

  abbrev pub without_rule : ℕ → List ChildReply
  without_rule at = replies_from hit t struck n (depth_of t rule) at

  -- behind any reply, the children from one place on combine to what those from another place give behind another reply
  abbrev pub Turns : (ℕ → List ChildReply) → ℕ → (ChildReply → ChildReply) → Type 0
  Turns from at next = (so : ChildReply) → combined (algorithm_at a) (so ∷ from at) ≡ combined (algorithm_at a) (next so ∷ from (at + 1))

  struck_is : set (kept struck rule) rule 1 ≡ struck
  struck_is = set-set struck rule 0 1 ∙ ap (set struck rule) (sym child.flag) ∙ set-get_or struck rule 0

  live : get_or (kept struck rule) rule 0 ≡ 0
  live = get_or-set_same struck rule 0 0 (omega (arith, child.inside))

  kept_room : n ≤ length (kept struck rule)
  kept_room = omega (arith, length-set struck rule 0)

  -- no other flag is another
  flag_same : (at : ℕ) → at ≢ rule → get_or (kept struck rule) at 0 ≡ get_or struck at 0
  flag_same at other = get_or-set_other struck rule at 0 0 other

  pub behind_same : (at : ℕ) → rule < at → without_rule at ≡ with_rule at
  behind_same at l = subst (λ s. replies_from hit t s n (depth_of t rule) at ≡ with_rule at) struck_is (replies_behind hit t (kept struck rule) n rule child.leaves child.rules (depth_of t rule) at l)

  -- where the rule does not match, its parent's children combine alike
  pub off_same : hit (element_at t rule) ≡ false → (at : ℕ) → at ≤ rule → combined (algorithm_at a) (without_rule at) ≡ combined (algorithm_at a) (with_rule at)
  off_same off at l =
      subst (λ s. combined (algorithm_at a) (replies_from hit t s n (depth_of t rule) at) ≡ combined (algorithm_at a) (with_rule at)) struck_is
      (replies_without hit t (kept struck rule) n rule child.leaves child.rules kept_room child.inside live child.effect off a (depth_of t rule) at l)

  -- the rule's own place
  pub rule_struck : Turns without_rule rule (λ so. so)
  rule_struck so =
      let flag : (get_or struck rule 0 ≡ 0 → ⊥) = λ none. let no : ⊥ = omega (arith, child.flag) in absurd no in
      ap (λ cs. combined (algorithm_at a) (so ∷ cs)) (replies_struck hit t struck n (depth_of t rule) rule child.inside flag)

  pub rule_kept : hit (element_at t rule) ≡ true → Turns with_rule rule (λ so. step_of (algorithm_at a) so (effect_reply (word_at (word_number t rule)) true))
  rule_kept on so =
      let own : effect_reply (word_at (word_number t rule)) true ≡ reply_at hit t (kept struck rule) n rule = sym (rule_reply hit t (kept struck rule) n rule child.effect ∙ ap (effect_reply (word_at (word_number t rule))) on) in
      replies_step hit t (kept struck rule) n (depth_of t rule) rule child.inside (depth_of t rule) live refl a so refl _ _ own refl

  -- Another place behind the parent
  module _ (at : ℕ) (low : up < at) (inside : at < n) (other : at ≢ rule) where
    pub skips_struck : (get_or struck at 0 ≡ 0 → ⊥) → Turns with_rule at (λ so. so) × Turns without_rule at (λ so. so)
    skips_struck flag = (
      (λ so. ap (λ cs. combined (algorithm_at a) (so ∷ cs)) (replies_struck hit t (kept struck rule) n (depth_of t rule) at inside (λ none. flag (sym (flag_same at other) ∙ none)))),
      λ so. ap (λ cs. combined (algorithm_at a) (so ∷ cs)) (replies_struck hit t struck n (depth_of t rule) at inside flag),
    )

    module _ (lives : get_or struck at 0 ≡ 0) where
      pub skips_deeper : depth_of t rule < depth_of t at → Turns with_rule at (λ so. so) × Turns without_rule at (λ so. so)
      skips_deeper deep = (
        (λ so. ap (λ cs. combined (algorithm_at a) (so ∷ cs)) (replies_deeper hit t (kept struck rule) n (depth_of t rule) at inside (depth_of t at) (flag_same at other ∙ lives) refl deep)),
        λ so. ap (λ cs. combined (algorithm_at a) (so ∷ cs)) (replies_deeper hit t struck n (depth_of t rule) at inside (depth_of t at) lives refl deep),
      )

      -- a sibling gives the same with the rule as without it
      module _ (level : depth_of t at ≡ depth_of t rule) where
        abbrev taken : ChildReply → ChildReply
        taken so = step_of (algorithm_at a) so (reply_at hit t struck n at)

        pub takes_struck : Turns without_rule at taken
        takes_struck so = replies_step hit t struck n (depth_of t rule) at inside (depth_of t at) lives refl a so level _ _ refl refl

        pub takes_kept : at < rule → Turns with_rule at taken
        takes_kept before so =
            let same = reply_before hit t (kept struck rule) n rule child.leaves child.rules kept_room child.inside live child.effect at before (omega arith) in
            let given : reply_at hit t struck n at ≡ reply_at hit t (kept struck rule) n at = subst (λ s. reply_at hit t s n at ≡ reply_at hit t (kept struck rule) n at) struck_is same in
            replies_step hit t (kept struck rule) n (depth_of t rule) at inside (depth_of t at) (flag_same at other ∙ lives) refl a so level _ _ given refl

  -- A place before the rule: it is passed over, or both take the same child
  data Place (at : ℕ) : Type 0 where
    over : Turns with_rule at (λ so. so) × Turns without_rule at (λ so. so) → Place at
    sibling : (c : ChildReply) → Turns with_rule at (λ so. step_of (algorithm_at a) so c) → Turns without_rule at (λ so. step_of (algorithm_at a) so c) → Place at

  place : (at : ℕ) → up < at → at < rule → Place at
  place at low before = go (test (eqb (get_or struck at 0) 0)) (test (eqb (depth_of t at) (depth_of t rule)))
    where
      inside : at < n
      inside = omega (arith, child.inside)

      other : at ≢ rule
      other e = let no : ⊥ = omega arith in absurd no

      go : Test (eqb (get_or struck at 0) 0) → Test (eqb (depth_of t at) (depth_of t rule)) → Place at
      go (failed x) _ = over (skips_struck at low inside other (eqb-false (get_or struck at 0) 0 x))
      go (passed x) (passed y) =
          let lives = eqb-true (get_or struck at 0) 0 x in
          let level = eqb-true (depth_of t at) (depth_of t rule) y in
          sibling _ (takes_kept at low inside other lives level before) (takes_struck at low inside other lives level)
      go (passed x) (failed y) =
          let unlike : depth_of t at ≢ depth_of t rule = eqb-false (depth_of t at) (depth_of t rule) y in
          over (skips_deeper at low inside other (eqb-true (get_or struck at 0) 0 x) (omega (arith, child.under.above.deeper at low (omega arith), child.under.one_deeper)))

  -- Where the rule changes nothing behind the reply so far, it changes nothing at its own place
  pub absorbed : a < 3 → hit (element_at t rule) ≡ true → (k at : ℕ) (so : ChildReply) → at + k ≡ rule → up < at
      → (step_of (algorithm_at a) so (effect_reply (word_at (word_number t rule)) true)).decision ≡ so.decision
      → combined (algorithm_at a) (so ∷ with_rule at) ≡ combined (algorithm_at a) (so ∷ without_rule at)
  absorbed few on zero at so e low same =
      let own : at ≡ rule = omega arith in
      let behind = behind_same (rule + 1) (omega arith) in
      rw own (rule_kept on so ∙ same_so_far a _ so (with_rule (rule + 1)) few same ∙ sym (ap (λ cs. combined (algorithm_at a) (so ∷ cs)) behind) ∙ sym (rule_struck so))
  absorbed few on (suc k) at so e low same = go (place at low (omega arith)) (λ next. absorbed few on k (at + 1) next (omega arith) (omega arith))
    where
      go : Place at → ((next : ChildReply) → (step_of (algorithm_at a) next (effect_reply (word_at (word_number t rule)) true)).decision ≡ next.decision
          → combined (algorithm_at a) (next ∷ with_rule (at + 1)) ≡ combined (algorithm_at a) (next ∷ without_rule (at + 1)))
          → combined (algorithm_at a) (so ∷ with_rule at) ≡ combined (algorithm_at a) (so ∷ without_rule at)
      go (over (p, q)) further = p so ∙ further so same ∙ sym (q so)
      go (sibling c p q) further = p so ∙ further (step_of (algorithm_at a) so c) (still_unchanged a so (effect_reply (word_at (word_number t rule)) true) c few same) ∙ sym (q so)
