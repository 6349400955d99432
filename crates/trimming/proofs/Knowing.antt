-- What is known of the rules that were tried, from one round to the next.
use Prim.Native.Nat.{ℕ, ◌+◌, ◌≤◌, ◌<◌}
use mathlib.Core.Path.{◌≡◌, refl, sym, ap, ap₂, ◌∙◌}
use mathlib.Core.Logic.{◌≢◌}
use mathlib.Core.Bool.{Bool, true, false, not}
use mathlib.Core.List.{List}
use native.Mathlib.Omega.{arith}
use lib.Dec.{eqb}
use lib.ListN.{length, get_or, set, replicate, length-set, get_or-replicate}
use lib.Seq.{get_or-set_same, get_or-set_other, set_comm}
use borrow.Author.Tests.{eqb-true, eqb-false}
use Rattle.meaning.specs.Text.{Bytes}
use Rattle.meaning.specs.Deciding.{same_outcome}
use Rattle.laws.proofs.Bools.{Test, passed, failed, test, contradiction}
use Rattle.table.specs.declared.Row.{Row}
use Rattle.table.specs.Rows.{element_at, word_number}
use Rattle.table.specs.Tree.{rule_left}
use Rattle.table.specs.declared.Shape.{Shape}
use Rattle.table.specs.Shape.{hit_of}
use Rattle.matching.specs.Hits.{bit_of}
use Rattle.blocks.specs.declared.Effects.{Effects}
use Rattle.obligations.specs.Given.{outcome_left}
use Rattle.trimming.specs.Decided.{changes_at, first_change_at, needless_at}
use Rattle.trials.specs.Trial.{Laid}
use Rattle.trimming.specs.declared.Hint.{Hint}
use Rattle.trimming.specs.Known.{hint_at, IsKnown, Known, Forgets}
use Rattle.trials.proofs.Trying.{one_shown, ready_set, set_back, rule_flag, rule_word, aside}
use Rattle.trimming.proofs.Strikes.{needless_both, outcome_same}
use Rattle.layout.specs.declared.ElementPlaces.{ElementPlaces}

module _ (f : Bytes) (places : List ElementPlaces) (t : List Row) (s : Shape) where
  abbrev Knows : List ℕ → List Hint → Type 0
  Knows = Known f places t s

  abbrev changes : List ℕ → ℕ → ℕ → Bool
  changes = changes_at f places t s.n (hit_of s)

  -- a rule that is known is not needless
  pub known_needed : (struck : List ℕ) (hints : List Hint) → Knows struck hints → (i : ℕ) → i < s.n → IsKnown hints i → needless_at f places t s.n (hit_of s) s.space struck i ≡ false
  unfolding needless_at first_change_at
  known_needed struck hints knows i l is_known = go (test (rule_left t struck i))
    where
      go : Test (rule_left t struck i) → needless_at f places t s.n (hit_of s) s.space struck i ≡ false
      go (failed x) = rw x
      go (passed x) = let shown = knows i l is_known in rw x (one_shown (changes struck i) s.space (hint_at hints i).request shown.0 (shown.1 x))

  -- at the start nothing is known
  pub known_none : (struck : List ℕ) → s.n ≤ 64 → Knows struck (replicate 64 (record { request = 0; known = false }))
  known_none struck few i l is_known =
      let here : hint_at (replicate 64 (record { request = 0; known = false })) i ≡ (record { request = 0; known = false }) = get_or-replicate 64 i _ _ (omega arith) in
      contradiction (rw here at is_known) refl

  -- one rule more
  pub known_more : (struck : List ℕ) (hints : List Hint) → Knows struck hints → (i shown : ℕ) → s.n ≤ length hints → i < s.n → shown < s.space → (rule_left t struck i ≡ true → changes struck i shown ≡ true)
      → Knows struck (set hints i (record { request = shown; known = true }))
  known_more struck hints knows i shown room inside fits shows j l is_known = go (test (eqb j i))
    where
      go : Test (eqb j i) → ((hint_at (set hints i (record { request = shown; known = true })) j).request < s.space) × (rule_left t struck j ≡ true → changes struck j (hint_at (set hints i (record { request = shown; known = true })) j).request ≡ true)
      go (passed e) = let same = eqb-true j i e in rw (same, get_or-set_same hints i (record { request = shown; known = true }) (record { request = 0; known = false }) (omega arith)) (fits, shows)
      go (failed e) =
          let other = get_or-set_other hints i j (record { request = shown; known = true }) (record { request = 0; known = false }) (eqb-false j i e) in
          rw other (knows j l (rw other at is_known))

  -- A needless rule x is struck: what is known by requests that do not match it is still known
  module _ (struck : List ℕ) (hits : List (List ℕ)) (outcomes : List Effects) (x : ℕ) (inside : x < s.n) (needless : needless_at f places t s.n (hit_of s) s.space struck x ≡ true) (laid : Laid f places t struck hits outcomes s) where
    abbrev after : List ℕ
    after = set struck x 1

    -- a rule that is left is another one, and was left
    left_before : (i : ℕ) → rule_left t after i ≡ true → (i ≢ x) × (rule_left t struck i ≡ true)
    left_before i left = (other, rw (← get_or-set_other struck x i 1 0 other) left)
      where
        other : i ≢ x
        other same =
            let flag : get_or after x 0 ≡ 0 = rw same at (rule_flag t after i left) in
            let set_there : get_or after x 0 ≡ 1 = get_or-set_same struck x 1 0 (omega (arith, laid.ready.flags)) in
            let no : ⊥ = omega arith in
            absurd no

    -- without another rule too, a request that does not match it gets what it got
    same_without : (i m : ℕ) → m < s.space → i ≢ x → word_number t i < 2 → hit_of s m (element_at t x) ≡ false
        → outcome_left (hit_of s m) f t places (set struck i 1) s.n ≡ outcome_left (hit_of s m) f t places (set after i 1) s.n
    same_without i m l other effect off =
        let rule = (needless_both f places t struck s x needless).0 in
        let flag = get_or-set_other struck i x 1 0 (λ same. other (sym same)) in
        let left : rule_left t (set struck i 1) x ≡ true = rw flag rule in
        let swap : set (set struck i 1) x 1 ≡ set after i 1 = sym (set_comm struck x i 1 1 (λ same. other (sym same))) in
        let both = aside t (set struck i 1) x left s (ready_set i effect laid.ready) inside in
        let back = set_back (set struck i 1) x 0 (rule_flag t (set struck i 1) x left) in
        let same = laid.steady.unmatched (set (set struck i 1) x 1) x both m l off in
        ap (λ flags. outcome_left (hit_of s m) f t places flags s.n) (sym back) ∙ same ∙ ap (λ flags. outcome_left (hit_of s m) f t places flags s.n) swap

    pub known_next : (hints left : List Hint) → Knows struck hints → Forgets hits s.n x hints left → Knows after left
    unfolding changes_at
    known_next hints left knows forgets i l is_known =
        let (was, same, off-bit) = forgets.still i l is_known in
        let (fits, shows) = knows i l was in
        let m = (hint_at hints i).request in
        rw same (
          fits,
          λ rule.
              let (other, before) = left_before i rule in
              let off : hit_of s m (element_at t x) ≡ false = sym (laid.matched.hits_are x m inside fits) ∙ off-bit in
              ap₂ (λ a b. not (same_outcome a b)) (sym (outcome_same f places t struck s x needless m fits)) (sym (same_without i m fits other (rule_word t struck i before) off)) ∙ shows before,
        )

-- What is still known, up to place i; the hints behind are as they were
pub record Forgetting (hits : List (List ℕ)) (rule : ℕ) (hints after : List Hint) (i : ℕ) : Type 0 where
  pub same_length : length after ≡ length hints
  pub still : (j : ℕ) → j < i → IsKnown after j → IsKnown hints j × ((hint_at after j).request ≡ (hint_at hints j).request) × (bit_of hits rule (hint_at hints j).request ≡ false)
  pub behind : (j : ℕ) → i ≤ j → hint_at after j ≡ hint_at hints j

pub forgets_none : (hits : List (List ℕ)) (rule : ℕ) (hints : List Hint) → Forgetting hits rule hints hints 0
forgets_none hits rule hints = record { same_length = refl; still = λ j l. absurd (omega arith); behind = λ j l. refl }

module _ {hits : List (List ℕ)} {rule : ℕ} {hints after : List Hint} {i : ℕ} (so_far : Forgetting hits rule hints after i) where
  -- place i is not known, or its request does not match the rule
  pub forgets_keep : (IsKnown after i → bit_of hits rule (hint_at after i).request ≡ false) → Forgetting hits rule hints after (i + 1)
  forgets_keep off = record { same_length = so_far.same_length; still = λ j l is_known. go j l is_known (test (eqb j i)); behind = λ j l. so_far.behind j (omega arith) }
    where
      go : (j : ℕ) → j < i + 1 → IsKnown after j → Test (eqb j i) → IsKnown hints j × ((hint_at after j).request ≡ (hint_at hints j).request) × (bit_of hits rule (hint_at hints j).request ≡ false)
      go j l is_known (passed e) =
          let here = eqb-true j i e in
          let same = so_far.behind i (omega arith) in
          rw here (rw (here, same) at is_known, ap (λ h. h.request) same, rw same at (off (rw here at is_known)))
      go j l is_known (failed e) = let other = eqb-false j i e in so_far.still j (omega arith) is_known

  -- place i is forgotten
  pub forgets_drop : (gone : Hint) → gone.known ≡ false → i < length after → Forgetting hits rule hints (set after i gone) (i + 1)
  forgets_drop gone none inside =
      record {
        same_length = length-set after i gone ∙ so_far.same_length;
        still = λ j l is_known. go j l is_known (test (eqb j i));
        behind = λ j l. get_or-set_other after i j gone _ (λ same. let no : ⊥ = omega arith in absurd no) ∙ so_far.behind j (omega arith);
      }
    where
      go : (j : ℕ) → j < i + 1 → IsKnown (set after i gone) j → Test (eqb j i) → IsKnown hints j × ((hint_at (set after i gone) j).request ≡ (hint_at hints j).request) × (bit_of hits rule (hint_at hints j).request ≡ false)
      go j l is_known (passed e) = let here = eqb-true j i e in contradiction (rw (here, get_or-set_same after i gone (record { request = 0; known = false }) inside) at is_known) none
      go j l is_known (failed e) =
          let other = get_or-set_other after i j gone (record { request = 0; known = false }) (eqb-false j i e) in
          let kept = so_far.still j (omega (arith, eqb-false j i e)) (rw other at is_known) in
          rw other kept
