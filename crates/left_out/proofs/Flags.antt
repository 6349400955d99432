-- Flags of rules that a proposal leaves out: what they leave is accepted, and leaves out rule lines alone.
use mathlib.Core.Path.{◌≡◌, refl, sym, ap, ◌∙◌, subst}
use Prim.Native.Nat.{ℕ, zero, suc, ◌+◌, ◌≤◌, ◌<◌}
use native.Mathlib.Omega.{arith}
use mathlib.Core.Bool.{true, false, not}
use mathlib.Core.List.{List, [], ◌∷◌, ◌++◌}
use lib.Dec.{eqb, ltb}
use lib.ListN.{length, get_or, set}
use lib.Seq.{get_or-set_other}
use borrow.Author.Tests.{eqb-true, eqb-false, eq-eqb}
use Rattle.meaning.specs.Text.{Bytes, front, without}
use Rattle.meaning.specs.Model.{Policy, given}
use Rattle.meaning.specs.Reading.{read}
use Rattle.meaning.specs.Deciding.{same_outcome}
use Rattle.meaning.specs.Trimming.{rule_line, is_rule_line, strike, file_lines}
use Rattle.laws.proofs.Bools.{Test, passed, failed, test, contradiction}
use Rattle.laws.proofs.Reading.{accepted, front_snoc}
use Rattle.laws.proofs.Outcomes.{outcome_same}
use Rattle.laws.proofs.Striking.{strike_without}
use Rattle.table.specs.declared.Row.{Row}
use Rattle.table.specs.declared.Shape.{Shape}
use Rattle.table.specs.Rows.{word_number, element_at}
use Rattle.table.specs.Shape.{hit_of}
use Rattle.outcomes.specs.Decided.{none_struck}
use Rattle.outcomes.specs.PolicyTable.{PolicyTable}
use Rattle.obligations.specs.Given.{outcome_left}
use Rattle.differences.specs.Apart.{apart, Untouched}
use Rattle.trials.specs.Steady.{Aside}
use Rattle.trials.proofs.Trying.{set_back, aside}
use Rattle.trimmed_text.specs.Flags.{left_policy, text_left, kept_at}
use Rattle.trimmed_text.specs.Held.{PolicyHeld}
use Rattle.trimmed_text.proofs.ByPlace.{effect_is}
use Rattle.trimmed_text.proofs.Steps.{Stands, line_at, text_whole, stands_whole, kept_line_lem, strike_flag, stands_next}
use Rattle.trimmed_text.proofs.Placed.{text_copied}
use Rattle.trimmed_text.proofs.Whole.{none_clear}
use Rattle.trimmed_text.proofs.Held.{sizes, steady_held}
use Rattle.left_out.specs.Leaving.{leaving_from, leaving, begins}
use Rattle.layout.specs.declared.ElementPlaces.{ElementPlaces}
use Rattle.layout.specs.Places.{start_of}
use Rattle.meaning.specs.Claims.Accepting.{LeavesOut, up_to, kept, left_out}
use Rattle.left_out.proofs.Text.{ClearFrom, clear_next, Way, stands, is_struck, is_other, way, whole_text}

-- all lines, and a rule line less
all_kept : (ls : List Bytes) → LeavesOut ls ls []
all_kept [] = up_to []
all_kept (l ∷ ls) = kept l ls ls [] (all_kept ls)

leaves_more : {os ls rest : List Bytes} → LeavesOut os ls rest → (k : ℕ) → rule_line (get_or ls k []) ≡ true → LeavesOut os (without k ls) rest
leaves_more (up_to rest) k r = contradiction r refl
leaves_more (kept l os ls rest x) zero r = left_out l os ls rest r x
leaves_more (kept l os ls rest x) (suc k) r = kept l os (without k ls) rest (leaves_more x k r)
leaves_more (left_out o os ls rest s x) k r = left_out o os (without k ls) rest s (leaves_more x k r)

-- the empty piece behind the last newline is no rule line
before_end : (ls : List Bytes) (k : ℕ) → rule_line (get_or (ls ++ ([] ∷ [])) k []) ≡ true → (without k (ls ++ ([] ∷ [])) ≡ without k ls ++ ([] ∷ [])) × (rule_line (get_or ls k []) ≡ true)
before_end [] zero r = contradiction r refl
before_end [] (suc k) r = contradiction r refl
before_end (l ∷ ls) zero r = (refl, r)
before_end (l ∷ ls) (suc k) r = let (a, b) = before_end ls k r in (ap (λ ms. l ∷ ms) a, b)

strike_leaves : (os : List Bytes) (f : Bytes) (p : Policy) → read f ≡ given p → (k : ℕ) → is_rule_line f k ≡ true → LeavesOut os (file_lines f) [] → LeavesOut os (file_lines (strike k f)) []
strike_leaves os f p h k r x =
    let ended = (accepted f p h).text.pieces in
    let (less, rule) = before_end (file_lines f) k (subst (λ ls. rule_line (get_or ls k []) ≡ true) ended r) in
    let left : file_lines (strike k f) ≡ without k (file_lines f) = ap front (strike_without f p h k r ∙ ap (without k) ended ∙ less) ∙ front_snoc (without k (file_lines f)) [] in
    subst (λ ls. LeavesOut os ls []) (sym left) (leaves_more x k rule)

module _ (f : List ℕ) (table : List Row) (places : List ElementPlaces) (s : Shape) (held : PolicyHeld f table places s) where
  abbrev p : Policy
  p = held.policy

  abbrev h : read f ≡ given p
  h = held.is_read

  -- What flags leave
  pub record RulesLeft (struck : List ℕ) : Type 0 where
    pub stands_so : Stands f p struck
    pub leaves : LeavesOut (file_lines f) (file_lines (text_left f p struck)) []
    pub ready : PolicyTable table struck s
    pub untouched : Untouched f places table none_struck struck s

  none_left : RulesLeft none_struck
  unfolding apart
  none_left = record {
    stands_so = stands_whole f p h none_struck none_clear (omega (arith, sizes f table places s held, held.ready.few));
    leaves = subst (λ t. LeavesOut (file_lines f) (file_lines t) []) (sym (text_whole f p h none_struck none_clear)) (all_kept (file_lines f));
    ready = held.ready;
    untouched = λ m l none. ap not (outcome_same (outcome_left (hit_of s m) f table places none_struck s.n));
  }

  -- one rule more
  module _ (struck : List ℕ) (i : ℕ) (l : i < s.n) (clear : get_or struck i 0 ≡ 0) (effect : ltb (word_number table i) 2 ≡ true) (left : RulesLeft struck) where
    out : Aside table (set struck i 1) s i
    out = aside table struck i (rw (eq-eqb (get_or struck i 0) 0 clear, effect)) s left.ready l

    kept_so : kept_at p struck i ≡ true
    kept_so = rw (eq-eqb (get_or struck i 0) 0 clear, sym (effect_is f p h table places s.n held.elements i l) ∙ effect)

    -- those struck before it are struck still
    still_struck : (j : ℕ) → get_or (set struck i 1) j 0 ≡ 0 → get_or struck j 0 ≡ 0
    still_struck j e = go (test (eqb j i))
      where
        go : Test (eqb j i) → get_or struck j 0 ≡ 0
        go (passed x) = rw (eqb-true j i x) clear
        go (failed x) = sym (get_or-set_other struck i j 1 0 (eqb-false j i x)) ∙ e

    -- a request that matches none of them gets the same with it and without it
    same_more : Untouched f places table none_struck (set struck i 1) s
    unfolding apart
    same_more m b none =
        let off : hit_of s m (element_at table i) ≡ false = none i l (λ e. omega (arith, e, out.flag)) in
        let back = set_back struck i 0 clear in
        let same : outcome_left (hit_of s m) f table places struck s.n ≡ outcome_left (hit_of s m) f table places (set struck i 1) s.n =
        ap (λ flags. outcome_left (hit_of s m) f table places flags s.n) (sym back) ∙ (steady_held f table places s held).unmatched (set struck i 1) i out m b off in
        ap (λ o. not (same_outcome (outcome_left (hit_of s m) f table places none_struck s.n) o)) (sym same) ∙ left.untouched m b (λ j c gone. none j c (λ e. gone (still_struck j e)))

    one_more : RulesLeft (set struck i 1)
    one_more =
        let x = left.stands_so in
        record {
          stands_so = stands_next f p h struck x i kept_so;
          leaves = subst (λ t. LeavesOut (file_lines f) (file_lines t) []) (strike_flag f p h struck x i kept_so) (strike_leaves (file_lines f) (text_left f p struck) (left_policy p struck) x.accepts (line_at p struck i) (kept_line_lem f p h struck x i kept_so) left.leaves);
          ready = out.ready;
          untouched = same_more;
        }

  module _ (g : Bytes) where
    more : (m i at : ℕ) (struck : List ℕ) → i + m ≤ s.n → ClearFrom i struck → RulesLeft struck → RulesLeft (leaving_from f places table s.n g m i at struck).flags
    unfolding leaving_from
    more zero i at struck l clear left = left
    more (suc m) i at struck l clear left = go (way f places table s.n g m i at struck) (more m (i + 1))
      where
        go : Way f places table s.n g m i at struck → ((at : ℕ) (struck : List ℕ) → i + 1 + m ≤ s.n → ClearFrom (i + 1) struck → RulesLeft struck → RulesLeft (leaving_from f places table s.n g m (i + 1) at struck).flags)
            → RulesLeft (leaving_from f places table s.n g (suc m) i at struck).flags
        go (stands e is) later = subst (λ x. RulesLeft x.flags) (sym is) (later _ struck (omega arith) (λ j b. clear j (omega arith)) left)
        go (is_struck e w is) later = subst (λ x. RulesLeft x.flags) (sym is) (later at (set struck i 1) (omega arith) (clear_next i 1 struck clear) (one_more struck i (omega arith) (clear i (omega arith)) w left))
        go (is_other e w is) later = subst (λ x. RulesLeft x.flags) (sym is) left

    pub flags_left : RulesLeft (leaving f places table s.n g none_struck).flags
    flags_left = go (test (begins f places table s.n g 0 0 (start_of places 0)))
      where
        go : Test (begins f places table s.n g 0 0 (start_of places 0)) → RulesLeft (leaving f places table s.n g none_struck).flags
        go (passed e) = rw e (more s.n 0 (start_of places 0) none_struck (omega arith) (λ j l. none_clear j) none_left)
        go (failed e) = rw e none_left

    -- a proposal that is matched to its end is the text that they leave
    pub whole_left : (leaving f places table s.n g none_struck).whole ≡ true → g ≡ text_left f p (leaving f places table s.n g none_struck).flags
    whole_left whole =
        let flags = (leaving f places table s.n g none_struck).flags in
        whole_text f places table s.n g none_struck held.ready.few (λ j l. none_clear j) whole
        ∙ sym (text_copied f p h table places flags (length p.attributes) s.n refl held.elements (sizes f table places s held) held.lined held.ready.some)
