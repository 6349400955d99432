-- The next rule to strike is the same on flags and on bytes, and so is the topmost needless rule.
use mathlib.Core.Path.{◌≡◌, refl, sym, ap, ◌∙◌}
use Prim.Native.Nat.{ℕ, ◌<◌, zero-le}
use native.Mathlib.Nat.{zero-add}
use native.Mathlib.Omega.{arith}
use mathlib.Core.Logic.{◌≢◌}
use mathlib.Core.Bool.{true, false}
use mathlib.Core.List.{List}
use mathlib.Core.Option.{Option, none, some, map}
use lib.Dec.{ltb, eqb}
use lib.ListN.{length}
use borrow.Author.Tests.{ltb-true, ltb-false, eqb-true, eqb-false}
use Rattle.meaning.specs.Text.{Bytes, is_none, first_from, last_below}
use Rattle.meaning.specs.Model.{Policy, given}
use Rattle.meaning.specs.Reading.{read}
use Rattle.meaning.specs.Trimming.{lines, is_rule_line, first_change, needless, next_struck}
use Rattle.laws.proofs.Bools.{Test, passed, failed, test, contradiction, and_true}
use Rattle.laws.proofs.Search.{First, first_some, first_none, first_is, first_absent, Last, last_some, last_none, last_is, last_absent}
use Rattle.laws.proofs.Trimming.{rule_within}
use Rattle.laws.proofs.Striking.{strike_read}
use Rattle.trimmed_text.specs.Flags.{is_left, left_policy, text_left, first_change_at, rule_in, kept_at, needless_at, next_at}
use Rattle.trimmed_text.proofs.Left.{left_place}
use Rattle.trimmed_text.proofs.Steps.{Stands, line_at, line_rises, struck_behind, rule_line_lem, kept_left, kept_below, kept_line_lem, needless_flag}

-- A needless rule is left, and so is the next one to strike
module _ (p : Policy) (struck : List ℕ) where
  pub needless_kept : (i : ℕ) → needless_at p struck i ≡ true → kept_at p struck i ≡ true
  unfolding needless_at
  needless_kept i n = (and_true (kept_at p struck i) (is_none (first_change_at p struck i)) n).0

  pub next_kept : (i : ℕ) → next_at p struck ≡ some i → kept_at p struck i ≡ true
  unfolding next_at
  next_kept i e = needless_kept i (last_some (needless_at p struck) (length p.elements) i e).holds

module _ (f : Bytes) (p : Policy) (h : read f ≡ given p) (struck : List ℕ) (s : Stands f p struck) where
  abbrev text : Bytes
  text = text_left f p struck

  -- Every rule line is that of a rule that is left
  pub record RuleAt (k : ℕ) : Type 0 where
    pub place : ℕ
    pub kept : kept_at p struck place ≡ true
    pub line : line_at p struck place ≡ k

  pub rule_place : (k : ℕ) → is_rule_line text k ≡ true → RuleAt k
  rule_place k r =
      let es = p.elements in
      let x = strike_read text (left_policy p struck) s.accepts k r in
      let b = struck_behind x in
      let y = left_place struck 0 es (length x.front) b.fewer in
      let stays : is_left struck y.place ≡ true = rw zero-add at y.stays in
      let at : line_at p struck y.place ≡ k = rw (y.counts, b.first) x.place in
      let is_rule : rule_in es y.place ≡ true = sym (rule_line_lem f p h struck s y.place y.below stays) ∙ rw at r in
      record { place = y.place; kept = rw (stays, is_rule); line = at }

  -- a lower line has a lower place
  line_lower : (i j : ℕ) → i < length p.elements → is_left struck i ≡ true → line_at p struck j < line_at p struck i → j < i
  line_lower i j b e l = go (test (ltb i j)) (test (eqb i j))
    where
      go : Test (ltb i j) → Test (eqb i j) → j < i
      go (passed x) y = absurd (omega (arith, line_rises p struck i j b e (ltb-true i j x)))
      go (failed x) (passed y) = absurd (omega (arith, ap (line_at p struck) (eqb-true i j y)))
      go (failed x) (failed y) = let other : i ≢ j = eqb-false i j y in omega (arith, ltb-false i j x)

  -- Needless lines are the lines of needless rules
  pub needless_place : (k : ℕ) → needless text k ≡ true → (x : RuleAt k) × (needless_at p struck x.place ≡ true)
  needless_place k n =
      let x = rule_place k (and_true (is_rule_line text k) (is_none (first_change text k)) n).0 in
      (x, sym (needless_flag f p h struck s x.place x.kept) ∙ rw x.line n)

  -- The next rule to strike is the same
  next_none_left : last_below (needless_at p struck) (length p.elements) ≡ none → next_struck text ≡ none
  next_none_left e = last_absent (needless text) (length (lines text)) (λ k l. go k (test (needless text k)))
    where
      go : (k : ℕ) → Test (needless text k) → needless text k ≡ false
      go k (passed n) =
          let (x, y) = needless_place k n in
          contradiction y (last_none (needless_at p struck) (length p.elements) e x.place (kept_below p struck x.place x.kept))
      go k (failed n) = n

  next_some_left : (i : ℕ) → Last (needless_at p struck) (length p.elements) i → next_struck text ≡ some (line_at p struck i)
  next_some_left i l =
      let kept = needless_kept p struck i l.holds in
      last_is (needless text) (length (lines text)) (line_at p struck i) (record {
        below = rule_within text (line_at p struck i) (kept_line_lem f p h struck s i kept);
        holds = needless_flag f p h struck s i kept ∙ l.holds;
        no_later = λ k u v. go k u (test (needless text k));
      })
    where
      go : (k : ℕ) → line_at p struck i < k → Test (needless text k) → needless text k ≡ false
      go k u (passed n) =
          let (x, y) = needless_place k n in
          let below = kept_below p struck x.place x.kept in
          contradiction y (l.no_later x.place (line_lower x.place i below (kept_left p struck x.place x.kept) (rw x.line u)) below)
      go k u (failed n) = n

  pub next_flag : next_struck text ≡ map (line_at p struck) (next_at p struck)
  unfolding next_at
  next_flag = go (last_below (needless_at p struck) (length p.elements)) refl
    where
      go : (o : Option ℕ) → last_below (needless_at p struck) (length p.elements) ≡ o → next_struck text ≡ map (line_at p struck) o
      go none e = next_none_left e
      go (some i) e = next_some_left i (last_some (needless_at p struck) (length p.elements) i e)

  -- The topmost needless rule is the same
  none_first : first_from (needless_at p struck) 0 (length p.elements) ≡ none → first_from (needless text) 0 (length (lines text)) ≡ none
  none_first e = first_absent (needless text) 0 (length (lines text)) (λ k l u. go k (test (needless text k)))
    where
      go : (k : ℕ) → Test (needless text k) → needless text k ≡ false
      go k (passed n) =
          let (x, y) = needless_place k n in
          contradiction y (first_none (needless_at p struck) 0 (length p.elements) e x.place zero-le (omega (arith, kept_below p struck x.place x.kept)))
      go k (failed n) = n

  some_first : (i : ℕ) → First (needless_at p struck) 0 (length p.elements) i → first_from (needless text) 0 (length (lines text)) ≡ some (line_at p struck i)
  some_first i l =
      let kept = needless_kept p struck i l.holds in
      first_is (needless text) 0 (length (lines text)) (line_at p struck i) (record {
        low = zero-le;
        high = omega (arith, rule_within text (line_at p struck i) (kept_line_lem f p h struck s i kept));
        holds = needless_flag f p h struck s i kept ∙ l.holds;
        no_earlier = λ k low u. go k u kept (test (needless text k));
      })
    where
      go : (k : ℕ) → k < line_at p struck i → kept_at p struck i ≡ true → Test (needless text k) → needless text k ≡ false
      go k u kept (passed n) =
          let (x, y) = needless_place k n in
          contradiction y (l.no_earlier x.place zero-le (line_lower i x.place (kept_below p struck i kept) (kept_left p struck i kept) (rw x.line u)))
      go k u kept (failed n) = n

  pub first_flag : first_from (needless text) 0 (length (lines text)) ≡ map (line_at p struck) (first_from (needless_at p struck) 0 (length p.elements))
  first_flag = go (first_from (needless_at p struck) 0 (length p.elements)) refl
    where
      go : (o : Option ℕ) → first_from (needless_at p struck) 0 (length p.elements) ≡ o → first_from (needless text) 0 (length (lines text)) ≡ map (line_at p struck) o
      go none e = none_first e
      go (some i) e = some_first i (first_some (needless_at p struck) 0 (length p.elements) i e)
