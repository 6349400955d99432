-- The obligations that a request gets under two lists of flags, by the words that `chains` lays down.
use Prim.Native.Nat.{ℕ, ◌+◌, ◌*◌, ◌/◌, ◌%◌, ◌≤◌, ◌<◌}
use mathlib.Core.Path.{◌≡◌, refl, sym, ap, ap₂, ◌∙◌}
use mathlib.Core.Bool.{Bool, true, false, not, cond, ◌&&◌}
use mathlib.Core.List.{List, []}
use native.Mathlib.Omega.{arith}
use lib.Dec.{eqb}
use lib.Bits.{bit_and}
use lib.ListN.{get_or}
use borrow.Author.Tests.{eqb-true, eqb-false, not-false}
use Rattle.std.specs.Prelude.{Option, Some, None, unwrap_or}
use Rattle.std.specs.Option.{option_or}
use Rattle.meaning.specs.Text.{Bytes, counting, same}
use Rattle.meaning.specs.Deciding.{bit, is}
use Rattle.laws.proofs.Types.{Decision, Element}
use Rattle.laws.proofs.Bits.{bit_and_lem}
use Rattle.laws.proofs.Bools.{Test, passed, failed, test, contradiction}
use Rattle.laws.proofs.Lists.{gathered_alike}
use Rattle.laws.proofs.Search.{counting_only}
use Rattle.laws.proofs.Text.{same_refl}
use Rattle.laws.proofs.Outcomes.{same_decision, decision_same}
use Rattle.table.specs.declared.Row.{Row}
use Rattle.table.specs.declared.Shape.{Shape}
use Rattle.table.specs.Shape.{hit_of}
use Rattle.blocks.specs.declared.Effects.{Effects}
use Rattle.blocks.specs.Bits.{decision_by, Answers}
use Rattle.chains.specs.Chain.{alike, chained, ChainLaid}
use Rattle.chains.proofs.Chained.{chain_none}
use Rattle.outcomes.specs.Decided.{no_effects, decided_at, differs_at}
use Rattle.outcomes.specs.PolicyTable.{PolicyTable}
use Rattle.outcomes.specs.Changes.{InBlock, FirstInBlock}
use Rattle.layout.specs.declared.ElementPlaces.{ElementPlaces}
use Rattle.layout.specs.Places.{obligation_end, obligations_in}
use Rattle.layout.proofs.Slots.{none_in}
use Rattle.obligations.specs.Given.{spelling, own_text, given_text, effect, marks_in, any_obliged}
use Rattle.obligations.proofs.Texts.{either_none, text_alike, text_chained, text_undecided, none_given}
use Rattle.differences.specs.Apart.{apart, Compared, Suspects}
use Rattle.differences.specs.Marks.{Marked, others_given, Among, FirstAmong}
use Rattle.differences.proofs.Apart.{first_is, decided_apart}

same_text : (x y : Bytes) → x ≡ y → not (same x y) ≡ false
same_text x y e = ap (λ a. not (same a y)) e ∙ ap not (same_refl y)

-- Marks that agree on the elements that have obligations
module _ (f : Bytes) (places : List ElementPlaces) (n : ℕ) where
  text_obliged : (d : Decision) (F G : ℕ → Bool) → ((i : ℕ) → i < n → (obligation_end places i 0 ≡ 0 → ⊥) → F i ≡ G i) → given_text d F f places n ≡ given_text d G f places n
  unfolding given_text
  text_obliged d F G agree = gathered_alike (own_text d F f places) (own_text d G f places) (counting 0 n) (λ i has. go i (omega (arith, (counting_only 0 n i has).1)) (test (eqb (obligation_end places i 0) 0)))
    where
      go : (i : ℕ) → i < n → Test (eqb (obligation_end places i 0) 0) → own_text d F f places i ≡ own_text d G f places i
      go i l (passed x) = rw (none_in f places i (eqb-true (obligation_end places i 0) 0 x)).0 (either_none (F i) ∙ sym (either_none (G i)))
      go i l (failed x) = ap (λ b. cond b (spelling d (obligations_in f places i)) []) (agree i l (eqb-false (obligation_end places i 0) 0 x))

  -- where bit v of the word is not set, they give the same
  none_other : (one other : List ℕ) (word permits v : ℕ) → Marked places n one other word → bit word v ≡ false → others_given f places n one other permits v ≡ false
  none_other one other word permits v marked off =
      let d = effect (bit permits v) in
      same_text (given_text d (marks_in one v) f places n) (given_text d (marks_in other v) f places n) (text_obliged d (marks_in one v) (marks_in other v) (λ i l some. marked v i off l some))

-- a decision that is permit or deny, by its first bit
effect_is : (p q : Bool) → alike (decision_by p q) (decision_by p q) ≡ true → decision_by p q ≡ effect p
effect_is true true e = contradiction e refl
effect_is true false e = refl
effect_is false true e = refl
effect_is false false e = contradiction e refl

-- Requests that are compared under two lists of flags
module _ (f : Bytes) (places : List ElementPlaces) (t : List Row) (before struck : List ℕ) (hits : List (List ℕ)) (outcomes : List Effects) (s : Shape) (compared : Compared f places t before struck hits outcomes s) where
  abbrev parted : ℕ → Bool
  parted = apart f places t s.n (hit_of s) before struck

  abbrev differs : ℕ → Bool
  differs = differs_at t s.n (hit_of s) outcomes struck

  abbrev decided : List ℕ → ℕ → Decision
  decided = decided_at t s.n (hit_of s)

  abbrev text : Decision → List ℕ → ℕ → Bytes
  text d flags m = given_text d (chained (hit_of s m) t flags s.n) f places s.n

  -- what the decisions laid down are compared with
  against : (m : ℕ) → m < s.space → differs m ≡ not (is (decided before m) (decided struck m))
  unfolding differs_at
  against m l = ap (λ d. not (is d (decided struck m))) (compared.holds.outcomes_are m l)

  differs_apart : (m : ℕ) → m < s.space → differs m ≡ true → parted m ≡ true
  differs_apart m l e = decided_apart f places t s.n (hit_of s) before struck m (sym (against m l) ∙ e)

  -- the same decision: the obligations tell
  decided_same : (m : ℕ) → m < s.space → differs m ≡ false → decided struck m ≡ decided before m
  decided_same m l e = sym (same_decision _ _ (not-false _ (sym (against m l) ∙ e)))

  by_text : (m : ℕ) → m < s.space → differs m ≡ false → parted m ≡ not (same (text (decided before m) before m) (text (decided before m) struck m))
  unfolding apart decided_at
  by_text m l e =
      let d = decided before m in
      ap (λ x. not (is d x && same (text d before m) (text x struck m))) (decided_same m l e) ∙ rw (decision_same d)

  -- where no element has obligations
  none_obliged : any_obliged places s.n ≡ false → (m : ℕ) → m < s.space → differs m ≡ false → parted m ≡ false
  none_obliged none m l e =
      let d = decided before m in
      let empty : (flags : List ℕ) → text d flags m ≡ [] = λ flags. none_given d f places (chained (hit_of s m) t flags s.n) s.n none in
      by_text m l e ∙ same_text (text d before m) (text d struck m) (empty before ∙ sym (empty struck))

  -- The words of a block, under both
  module _ (old new older newer : List ℕ) (block : ℕ) (some : 64 * block < s.space) (first-laid : ChainLaid t before hits s.n block old new) (laid : ChainLaid t struck hits s.n block older newer) where
    abbrev others : ℕ → Bool
    others = others_given f places s.n new newer (get_or outcomes block no_effects).permits

    by_words : (m : ℕ) → m < s.space → m / 64 ≡ block → differs m ≡ false → parted m ≡ others (m % 64)
    by_words m l e unmoved =
        by_text m l unmoved
        ∙ go (test (alike d d))
        ∙ sym (ap₂ (λ a b. not (same a b)) (text_chained (effect p) f places v hit first-laid answers) (text_chained (effect p) f places v hit laid answers))
      where
        d : Decision
        d = decided before m

        v : ℕ
        v = m % 64

        hit : Element → Bool
        hit = hit_of s m

        p : Bool
        p = bit (get_or outcomes block no_effects).permits v

        answers : Answers t hits s.n block v hit
        answers j inside = rw e at (compared.matched.hits_are j m inside l)

        decision_laid : decision_by p (bit (get_or outcomes block no_effects).denies v) ≡ d
        decision_laid = rw e at (compared.holds.outcomes_are m l)

        -- where it is neither permit nor deny, no element is marked
        unmarked : {flags : List ℕ} → PolicyTable t flags s → alike (decided flags m) (decided flags m) ≡ false → (i : ℕ) → chained hit t flags s.n i ≡ false
        unmarked {flags} ready none i = chain_none hit t flags s.n i (ap (λ x. alike x x) (sym (first_is ready m)) ∙ none)

        go : Test (alike d d) → not (same (text d before m) (text d struck m)) ≡ not (same (text (effect p) before m) (text (effect p) struck m))
        go (passed x) =
            let is-effect : d ≡ effect p = sym decision_laid ∙ effect_is p (bit (get_or outcomes block no_effects).denies v) (ap (λ y. alike y y) decision_laid ∙ x) in
            ap (λ y. not (same (text y before m) (text y struck m))) is-effect
        go (failed x) =
            let empty : (flags : List ℕ) → text d flags m ≡ [] = λ flags. text_undecided d f places (chained hit t flags s.n) s.n x in
            let none = unmarked compared.ready_before x in
            let none-behind = unmarked compared.ready (ap (λ y. alike y y) (decided_same m l unmoved) ∙ x) in
            let agree = text_alike (effect p) f places (chained hit t before s.n) (chained hit t struck s.n) s.n (λ i inside. none i ∙ sym (none-behind i)) in
            same_text (text d before m) (text d struck m) (empty before ∙ sym (empty struck)) ∙ sym (same_text (text (effect p) before m) (text (effect p) struck m) agree)

    -- the first that gets another decision, or one before it that gets other obligations
    module _ (on word : ℕ) (suspects : Suspects f places t before struck s block on) (marked : Marked places s.n new newer word) where
      -- a request before all that get another decision or, of those asked for, other obligations
      passed_both : (m : ℕ) → m < s.space → m / 64 ≡ block → differs m ≡ false → (bit (bit_and on word) (m % 64) ≡ true → others (m % 64) ≡ false) → parted m ≡ false
      passed_both m below here unmoved among = go (test (bit on (m % 64))) (test (bit word (m % 64)))
        where
          tells : parted m ≡ others (m % 64)
          tells = by_words m below here unmoved

          go : Test (bit on (m % 64)) → Test (bit word (m % 64)) → parted m ≡ false
          go (failed x) _ = suspects m below here x
          go (passed x) (failed y) = tells ∙ none_other f places s.n new newer word (get_or outcomes block no_effects).permits (m % 64) marked y
          go (passed x) (passed y) = tells ∙ among (bit_and_lem on word (m % 64) ∙ ap₂ ◌&&◌ x y)

      -- one that gets other obligations
      by_given : (bound r : ℕ) → bound ≤ s.space → ((m : ℕ) → 64 * block ≤ m → m < 64 * block + 64 → m < bound → differs m ≡ false) → FirstAmong others (bit_and on word) (64 * block) bound r → FirstInBlock parted s.space block r
      by_given bound r within unmoved among =
          let (v, small, at, passes) = among.found in
          let place : r % 64 ≡ v = omega arith in
          record {
            within = omega (arith, among.within);
            high = omega arith;
            low = omega arith;
            holds = by_words r (omega (arith, among.within)) (omega arith) (unmoved r (omega arith) (omega arith) among.within) ∙ rw place passes;
            none_earlier = λ m low l.
                passed_both m (omega (arith, among.within)) (omega arith) (unmoved m low (omega arith) (omega (arith, among.within))) (among.none_earlier (m % 64) (omega arith) (omega arith));
          }

      pub first_of_both : (first r : Option ℕ) → InBlock differs s.space block first → Among others (bit_and on word) (64 * block) (unwrap_or first s.space) r → InBlock parted s.space block (option_or r first)
      first_of_both None None decisions among =
          λ m low high l. passed_both m l (omega arith) (decisions m low high l) (among (m % 64) (omega arith) (omega arith))
      first_of_both None (Some r) decisions among = by_given s.space r (omega arith) decisions among
      first_of_both (Some first) (Some r) decisions among =
          by_given first r (omega (arith, decisions.within)) (λ m low high l. decisions.none_earlier m low l) among
      first_of_both (Some first) None decisions among =
          record {
            within = decisions.within;
            high = decisions.high;
            low = decisions.low;
            holds = differs_apart first decisions.within decisions.holds;
            none_earlier = λ m low l.
                passed_both m (omega (arith, decisions.within)) (omega (arith, decisions.high)) (decisions.none_earlier m low l) (among (m % 64) (omega arith) (omega arith));
          }

  -- where no element has obligations, the first that gets another decision
  pub first_decided : any_obliged places s.n ≡ false → (block : ℕ) (first : Option ℕ) → InBlock differs s.space block first → InBlock parted s.space block first
  first_decided none block None decisions = λ m low high l. none_obliged none m l (decisions m low high l)
  first_decided none block (Some first) decisions =
      record {
        within = decisions.within;
        high = decisions.high;
        low = decisions.low;
        holds = differs_apart first decisions.within decisions.holds;
        none_earlier = λ m low l. none_obliged none m (omega (arith, decisions.within)) (decisions.none_earlier m low l);
      }
