-- What the children passed give with the rule and without it, on one request, a child at a time.
use Prim.Native.Nat.{ℕ, ◌+◌, ◌-◌, ◌≤◌, ◌<◌}
use mathlib.Core.Path.{◌≡◌, refl, sym, ap, ap₂, ◌∙◌}
use mathlib.Core.Logic.{◌≢◌}
use mathlib.Core.Bool.{Bool, true, false, not, ◌&&◌, and-false}
use mathlib.Core.List.{List, [], ◌∷◌}
use native.Mathlib.Omega.{arith}
use lib.Dec.{eqb, ltb}
use lib.ListN.{length, get_or}
use lib.Seq.{get_or-set_other}
use borrow.Author.Tests.{eqb-true, eqb-false, ltb-true, ltb-false, lt-ltb, le-ltb}
use Rattle.meaning.specs.declared.Decision.{Decision}
use Rattle.meaning.specs.declared.Element.{Element}
use Rattle.meaning.specs.Deciding.{Reply as ChildReply, is, combined}
use Rattle.laws.proofs.Bools.{Test, passed, failed, test, contradiction}
use Rattle.laws.proofs.Outcomes.{same_decision, decision_same}
use Rattle.table.specs.declared.Row.{Row}
use Rattle.table.specs.Rows.{word_at, algorithm_at, depth_of, element_at, word_number, algorithm_number}
use Rattle.decisions.specs.Replies.{step_of, replies_from, reply_at}
use Rattle.decisions.proofs.Combining.{Settled, start, neutral, start_settled, step_settled, same_so_far}
use Rattle.decisions.proofs.Children.{reply_on, reply_off, replies_off}
use Rattle.moves.specs.Moved.{effect_reply, kept, moved_at, Child, Sided}
use Rattle.moves.proofs.Rules.{group_few, group_word, Gives, effect_gives}
use Rattle.moves.proofs.Beside.{with_rule, without_rule, Turns, behind_same, off_same, rule_struck, rule_kept, skips_struck, skips_deeper, takes_struck, takes_kept, absorbed}

-- what is less deep than the rule stands behind it
pub behind_rule : {t : List Row} {struck : List ℕ} {n up rule : ℕ} → Child t struck n up rule → (at : ℕ) → up < at → depth_of t at < depth_of t rule → rule < at
behind_rule {t} {struck} {n} {up} {rule} child at low less = go (test (ltb rule at))
  where
    go : Test (ltb rule at) → rule < at
    go (passed e) = ltb-true rule at e
    go (failed e) =
        let before : at ≤ rule = ltb-false rule at e in
        let no : ⊥ = omega (arith, child.under.above.deeper at low before, child.under.one_deeper) in
        absurd no

module _ (hit : Element → Bool) (t : List Row) (struck : List ℕ) (n up rule a : ℕ) (child : Child t struck n up rule) (room : n ≤ length struck) (algorithm : a ≡ algorithm_number (word_at (word_number t up))) where
  abbrev own : ChildReply
  own = effect_reply (word_at (word_number t rule)) true

  abbrev with_it : ℕ → List ChildReply
  with_it = with_rule hit t struck n up rule a child room

  abbrev without_it : ℕ → List ChildReply
  without_it = without_rule hit t struck n up rule a child room

  -- what the parent's children give
  abbrev given : (ℕ → List ChildReply) → Decision
  given from = combined (algorithm_at a) (from (up + 1))

  few : a < 3
  few = omega (arith, algorithm, group_few (word_number t up) child.under.group child.under.decisive)

  -- The request matches the rule and its parent; behind the children before place `at` x stands for those with the rule and y for those without it, and they decide otherwise
  pub record Apart (x y : ChildReply) (at : ℕ) : Type 0 where
    pub on : hit (element_at t rule) ≡ true
    pub applies : hit (element_at t up) ≡ true
    pub settled : Settled a x
    pub settled_without : Settled a y
    pub without : given without_it ≡ combined (algorithm_at a) (y ∷ without_it at)
    pub early : at ≤ rule → (x ≡ step_of (algorithm_at a) y own) × (given with_it ≡ combined (algorithm_at a) (y ∷ with_it at))
    pub late : rule < at → given with_it ≡ combined (algorithm_at a) (x ∷ without_it at)
    pub other : is x.decision y.decision ≡ false

  -- What one bit says: the two are still apart, or the rule moves nothing
  abbrev pub So : Bool → ChildReply → ChildReply → ℕ → Type 0
  So b x y at = (b ≡ true → Apart x y at) × (b ≡ false → moved_at hit t struck n up rule ≡ false)

  -- the parent's decision, where it matches
  parent_gives : (s : List ℕ) → hit (element_at t up) ≡ true → (reply_at hit t s n up).decision ≡ combined (algorithm_at a) (replies_from hit t s n (depth_of t rule) (up + 1))
  parent_gives s on =
      let word : word_at (word_number t up) ≡ algorithm_at a = sym (ap algorithm_at algorithm ∙ group_word (word_number t up) child.under.group) in
      ap (λ r. r.decision) (reply_on hit t s n up on)
      ∙ ap₂ (λ w d. combined w (replies_from hit t s n d (up + 1))) word (sym child.under.one_deeper)

  moved_on : hit (element_at t up) ≡ true → moved_at hit t struck n up rule ≡ not (is (given with_it) (given without_it))
  unfolding moved_at
  moved_on on = ap₂ (λ x y. not (is x y)) (parent_gives (kept struck rule) on) (parent_gives struck on)

  unmoved : hit (element_at t up) ≡ true → given with_it ≡ given without_it → moved_at hit t struck n up rule ≡ false
  unmoved on same = moved_on on ∙ ap (λ d. not (is d (given without_it))) same ∙ ap not (decision_same (given without_it))

  -- the start
  pub so_first : (b : Bool) → b ≡ (hit (element_at t rule) && hit (element_at t up)) → So b (effect_reply (word_at (word_number t rule)) b) start (up + 1)
  unfolding moved_at
  so_first b is-reach = go b is-reach (test (hit (element_at t rule))) (test (hit (element_at t up)))
    where
      gives : Gives a own
      gives = effect_gives a (word_number t rule) few child.effect

      go : (b : Bool) → b ≡ (hit (element_at t rule) && hit (element_at t up)) → Test (hit (element_at t rule)) → Test (hit (element_at t up)) → So b (effect_reply (word_at (word_number t rule)) b) start (up + 1)
      go b e (passed x) (passed y) =
          let both : b ≡ true = e ∙ rw (x, y) in (
            (λ _. rw both record {
              on = x;
              applies = y;
              settled = gives.settled;
              settled_without = start_settled a;
              without = sym (neutral a _);
              early = λ l. (gives.first, sym (neutral a _));
              late = λ l. let no : ⊥ = omega (arith, child.under.earlier) in absurd no;
              other = gives.other;
            }),
            λ none. contradiction both none,
          )
      go b e x (failed y) =
          ((λ some. contradiction some (e ∙ ap (λ z. hit (element_at t rule) && z) y ∙ and-false (hit (element_at t rule)))), λ _. rw (reply_off hit t (kept struck rule) n up y, reply_off hit t struck n up y))
      go b e (failed x) (passed y) =
          ((λ some. contradiction some (e ∙ rw x)), λ _. unmoved y (sym (off_same hit t struck n up rule a child room x (up + 1) (omega (arith, child.under.earlier)))))

  -- a place that is passed over
  module _ (b : Bool) (x y : ChildReply) (at : ℕ) (so : So b x y at) where
    skip : (b ≡ true → Turns hit t struck n up rule a child room with_it at (λ so. so) × Turns hit t struck n up rule a child room without_it at (λ so. so)) → at ≢ rule → So b x y (at + 1)
    skip turns off = (
      (λ e.
          let apart = so.0 e in
          let (kept-turn, struck_turn) = turns e in
          record {
            on = apart.on;
            applies = apart.applies;
            settled = apart.settled;
            settled_without = apart.settled_without;
            without = apart.without ∙ struck_turn y;
            early = λ l. ((apart.early (omega arith)).0, (apart.early (omega arith)).1 ∙ kept-turn y);
            late = λ l. apart.late (omega arith) ∙ struck_turn x;
            other = apart.other;
          }),
      so.1,
    )

    -- the rule's own place
    at_rule : at ≡ rule → So b x y (at + 1)
    at_rule here = (
      (λ e.
          let apart = so.0 e in
          let behind = behind_same hit t struck n up rule a child room (rule + 1) (omega arith) in
          let (x-is, kept-so-far) = apart.early (omega arith) in
          let own_turn = rule_kept hit t struck n up rule a child room apart.on y in
          record {
            on = apart.on;
            applies = apart.applies;
            settled = apart.settled;
            settled_without = apart.settled_without;
            without = rw here (rw here at apart.without ∙ rule_struck hit t struck n up rule a child room y);
            early = λ l. let no : ⊥ = omega arith in absurd no;
            late = λ l. rw (here, x-is, behind) (rw here at kept-so-far ∙ own_turn);
            other = apart.other;
          }),
      so.1,
    )

    module _ (low : up < at) (inside : at < n) where
      pub so_struck : (get_or struck at 0 ≡ 0 → ⊥) → So b x y (at + 1)
      so_struck flag = go (test (eqb at rule))
        where
          go : Test (eqb at rule) → So b x y (at + 1)
          go (passed e) = at_rule (eqb-true at rule e)
          go (failed e) = let off = eqb-false at rule e in skip (λ _. skips_struck hit t struck n up rule a child room at low inside off flag) off

      module _ (lives : get_or struck at 0 ≡ 0) where
        -- what is left is not the rule
        not_rule : at ≢ rule
        not_rule here = let flag : get_or struck at 0 ≡ 1 = ap (λ i. get_or struck i 0) here ∙ child.flag in let no : ⊥ = omega arith in absurd no

        pub so_deeper : depth_of t rule < depth_of t at → So b x y (at + 1)
        so_deeper deep = skip (λ _. skips_deeper hit t struck n up rule a child room at low inside not_rule lives deep) not_rule

        module _ (level : depth_of t at ≡ depth_of t rule) where
          -- it matches no request on which the two are apart
          pub so_off : (b ≡ true → hit (element_at t at) ≡ false) → So b x y (at + 1)
          so_off off = skip (λ e. let none = replies_off_both (off e) in none) not_rule
            where
              replies_off_both : hit (element_at t at) ≡ false → Turns hit t struck n up rule a child room with_it at (λ so. so) × Turns hit t struck n up rule a child room without_it at (λ so. so)
              replies_off_both miss = (
                (λ so. replies_off hit t (kept struck rule) n (depth_of t rule) at inside (depth_of t at) (get_or-set_other struck rule at 0 0 not_rule ∙ lives) refl a so level miss),
                λ so. replies_off hit t struck n (depth_of t rule) at inside (depth_of t at) lives refl a so level miss,
              )

          -- it is taken on both sides
          module _ (c own-now p q : ChildReply) (is-child : c ≡ reply_at hit t struck n at) (is-own : b ≡ true → own-now ≡ own) (sided : Sided a (ltb at rule) x y c own-now p q) where
            q_is : q ≡ step_of (algorithm_at a) y (reply_at hit t struck n at)
            q_is = sided.0 ∙ ap (step_of (algorithm_at a) y) is-child

            struck_turn : Apart x y at → given without_it ≡ combined (algorithm_at a) (q ∷ without_it (at + 1))
            struck_turn apart = rw q_is (apart.without ∙ takes_struck hit t struck n up rule a child room at low inside not_rule lives level y)

            -- before the rule
            p_early : b ≡ true → at < rule → p ≡ step_of (algorithm_at a) q own
            p_early e before = sided.1 ∙ rw (lt-ltb at rule before) (ap (step_of (algorithm_at a) q) (is-own e))

            kept_early : Apart x y at → at < rule → given with_it ≡ combined (algorithm_at a) (q ∷ with_it (at + 1))
            kept_early apart before = rw q_is ((apart.early (omega arith)).1 ∙ takes_kept hit t struck n up rule a child room at low inside not_rule lives level before y)

            -- behind it
            p_late : rule < at → p ≡ step_of (algorithm_at a) x (reply_at hit t struck n at)
            p_late behind = sided.1 ∙ rw (le-ltb at rule (omega arith)) (ap (step_of (algorithm_at a) x) is-child)

            kept_late : Apart x y at → rule < at → given with_it ≡ combined (algorithm_at a) (p ∷ without_it (at + 1))
            kept_late apart behind = rw (p_late behind) (apart.late behind ∙ takes_struck hit t struck n up rule a child room at low inside not_rule lives level x)

            still : b ≡ true → Apart x y at → is p.decision q.decision ≡ false → Apart p q (at + 1)
            still e apart differ =
                record {
                  on = apart.on;
                  applies = apart.applies;
                  settled = go (test (ltb at rule));
                  settled_without = step_settled a y _ q sided.0;
                  without = struck_turn apart;
                  early = λ l. (p_early e (omega arith), kept_early apart (omega arith));
                  late = λ l. kept_late apart (omega (arith, not_rule));
                  other = differ;
                }
              where
                go : Test (ltb at rule) → Settled a p
                go (passed before) = step_settled a q own p (p_early e (ltb-true at rule before))
                go (failed behind) = let far : rule ≤ at = ltb-false at rule behind in step_settled a x _ p (p_late (omega (arith, not_rule)))

            closed : b ≡ true → Apart x y at → p.decision ≡ q.decision → moved_at hit t struck n up rule ≡ false
            closed e apart same = unmoved apart.applies (go (test (ltb at rule)))
              where
                go : Test (ltb at rule) → given with_it ≡ given without_it
                go (passed x) =
                    let before = ltb-true at rule x in
                    let nothing : (step_of (algorithm_at a) q own).decision ≡ q.decision = ap (λ r. r.decision) (sym (p_early e before)) ∙ same in
                    kept_early apart before ∙ absorbed hit t struck n up rule a child room few apart.on (rule - (at + 1)) (at + 1) q (omega arith) (omega arith) nothing ∙ sym (struck_turn apart)
                go (failed x) =
                    let far : rule ≤ at = ltb-false at rule x in
                    kept_late apart (omega (arith, not_rule)) ∙ same_so_far a p q (without_it (at + 1)) few same ∙ sym (struck_turn apart)

            pub so_taken : So (b && not (is p.decision q.decision)) p q (at + 1)
            so_taken = go (test b) (test (is p.decision q.decision))
              where
                go : Test b → Test (is p.decision q.decision) → So (b && not (is p.decision q.decision)) p q (at + 1)
                go (failed e) _ = ((λ some. contradiction some (rw e)), λ _. so.1 e)
                go (passed e) (failed d) = ((λ _. still e (so.0 e) d), λ none. contradiction (rw (e, d)) none)
                go (passed e) (passed d) = ((λ some. contradiction some (rw (e, d))), λ _. closed e (so.0 e) (same_decision _ _ d))

    -- no child follows
    pub so_ends : without_it at ≡ [] → rule < at → b ≡ moved_at hit t struck n up rule
    so_ends none behind = go (test b)
      where
        go : Test b → b ≡ moved_at hit t struck n up rule
        go (passed e) =
            let apart = so.0 e in
            let x-is : given with_it ≡ x.decision = apart.late behind ∙ rw none apart.settled in
            let y-is : given without_it ≡ y.decision = apart.without ∙ rw none apart.settled_without in
            e ∙ sym (moved_on apart.applies ∙ ap₂ (λ d f. not (is d f)) x-is y-is ∙ ap not apart.other)
        go (failed e) = e ∙ sym (so.1 e)
