-- The `X` and `K` lines, from the flags and places that striking leaves, are those of the trimmed file.
use mathlib.Core.Path.{◌≡◌, refl, sym, ap, ◌∙◌}
use mathlib.Core.Logic.{◌⊎◌, inl, inr}
use Prim.Native.Nat.{ℕ, zero, suc, ◌<◌}
use native.Mathlib.Omega.{arith}
use mathlib.Core.Bool.{cond, Bool}
use mathlib.Core.List.Memᴰ
use mathlib.Core.List.{List, [], ◌∷◌, map, reverse, Memᴰ}
use mathlib.Core.Option.{Option, none, some}
use lib.ListN.{length, get_or, set}
use borrow.Author.Tests.{lt-ltb}
use Rattle.std.specs.Prelude.{Option as Found, None}
use Rattle.meaning.specs.Text.{Bytes, bytes, gathered, if_some, first_from, counting, line, decimal}
use Rattle.meaning.specs.Model.{Policy, given, space as space_of}
use Rattle.meaning.specs.Reading.{read}
use Rattle.meaning.specs.Trimming.{rule_lines, trimmed}
use Rattle.meaning.specs.Report.{name_in as name_of_place, struck_fields, kept_line as kept_line_of}
use Rattle.meaning.specs.Deciding.{hits}
use Rattle.meaning.specs.declared.Element.{Element}
use Rattle.laws.proofs.Bools.{Test, passed, failed, test}
use Rattle.laws.specs.Found.{found}
use Rattle.laws.proofs.Search.{first_some, last_some, counting_only}
use Rattle.laws.proofs.Bounds.{bounded}
use Rattle.laws.proofs.Rewritten.{gathered_map}
use Rattle.table.specs.declared.Row.{Row}
use Rattle.table.specs.Tree.{rule_left}
use Rattle.trimming.specs.Decided as table-level
use Rattle.laws.proofs.Lists.{has_at, gathered_alike, gathered_keep}
use Rattle.layout.specs.declared.ElementPlaces.{ElementPlaces}
use Rattle.layout.specs.Places.{name_in, elements_to}
use Rattle.trimmed_text.specs.Flags.{kept_at, trimming_at, kept_places, kept_line_at}
use Rattle.trimmed_text.proofs.Whole.{none_clear}
use Rattle.trimmed_text.proofs.Trimmed.{trimmed_flags, kept_flags}
use Rattle.trimmed_text.proofs.Table.{count_is, name_at_lem}
use Rattle.trimmed_text.proofs.Tabled.{first_change_is, rule_is, trimming_is}
use Rattle.report_lines.specs.Lines.{struck_line, kept_for, kept_line, kept_text}
use Rattle.outcomes.specs.Decided.{none_struck}
use Rattle.reporting.specs.Found.{trimmed_at}

-- a request that a search finds is in the space
found_line : (f : Bytes) (places : List ElementPlaces) (i : ℕ) (t : ℕ → Bool) (s : ℕ) → kept_for f places s i (found (first_from t 0 s)) ≡ if_some (first_from t 0 s) (λ m. line (bytes "K" ∷ name_in f places i ∷ decimal m ∷ []))
found_line f places i t s = go (first_from t 0 s) refl
  where
    go : (o : Option ℕ) → first_from t 0 s ≡ o → kept_for f places s i (found (first_from t 0 s)) ≡ if_some (first_from t 0 s) (λ m. line (bytes "K" ∷ name_in f places i ∷ decimal m ∷ []))
    go none e = rw e
    go (some m) e = rw (e, lt-ltb m s (omega (arith, (first_some t 0 s m e).high)))

-- What is struck is one of n
module _ (f : Bytes) (places : List ElementPlaces) (table : List Row) (n : ℕ) (hit : ℕ → Element → Bool) (space : ℕ) where
  -- the next one
  next_below : (struck : List ℕ) (i : ℕ) → table-level.next_at f places table n hit space struck ≡ some i → i < n
  unfolding table-level.next_at
  next_below struck i e = (last_some (table-level.needless_at f places table n hit space struck) n i e).below

  -- all of them
  pub struck_below : (fuel : ℕ) (struck : List ℕ) (i : ℕ) → Memᴰ i (table-level.trimming_at f places table n hit space fuel struck).order → i < n
  unfolding table-level.trimming_at
  struck_below zero struck i m = absurd (Memᴰ.not-nil m)
  struck_below (suc fuel) struck i m = go (table-level.next_at f places table n hit space struck) refl m (λ j. struck_below fuel (set struck j 1) i)
    where
      later : ℕ → table-level.Struck
      later j = table-level.trimming_at f places table n hit space fuel (set struck j 1)

      either : (j : ℕ) → table-level.next_at f places table n hit space struck ≡ some j → (i ≡ j) ⊎ Memᴰ i (later j).order → (Memᴰ i (later j).order → i < n) → i < n
      either j e (inl same) behind = omega (arith, next_below struck j e)
      either j e (inr m) behind = behind m

      go : (o : Option ℕ) → table-level.next_at f places table n hit space struck ≡ o → Memᴰ i (table-level.onward o struck later).order → ((j : ℕ) → Memᴰ i (later j).order → i < n) → i < n
      go none e m behind = absurd (Memᴰ.not-nil m)
      go (some j) e m behind = either j e (Memᴰ.cases_cons m) (behind j)

  -- by their numbers
  abbrev order : List ℕ
  order = (trimmed_at f places table n hit space).order

  pub order_below : (k : ℕ) → k < length order → get_or order k 0 < n
  order_below k l = struck_below n none_struck (get_or order k 0) (has_at order 0 k l)

module _ (f : Bytes) (p : Policy) (h : read f ≡ given p) (table : List Row) (places : List ElementPlaces) (n : ℕ) (is : p.elements ≡ reverse (elements_to f table places n)) (hit : ℕ → Element → Bool) (space : ℕ) (hits_are : (m : ℕ) → hit m ≡ hits p m) (space_is : space ≡ space_of p.attributes) where
  -- how many elements there are, and their names
  size : length p.elements ≡ n
  size = count_is f table places n p is

  name : (i : ℕ) → i < n → name_in f places i ≡ name_of_place p.elements i
  name i l = sym (name_at_lem f table places n p is i l)

  -- the table's striking is the policy's
  same_striking : trimmed_at f places table n hit space ≡ trimming_at n p none_struck
  same_striking = trimming_is f p h table places n is size hit space hits_are space_is n none_struck refl

  -- the names struck stand at its places
  struck_names : (trimmed f).struck ≡ map (name_of_place p.elements) (trimmed_at f places table n hit space).order
  struck_names =
      ap (λ t. t.struck) (trimmed_flags f p h n none_struck none_clear (omega (arith, (bounded f p h).few_elements)) (omega (arith, size)))
      ∙ ap (λ t. map (name_of_place p.elements) t.order) (sym same_striking)

  -- the `X` lines
  pub struck_are : gathered (struck_line f places) (trimmed_at f places table n hit space).order ≡ gathered (λ m. line (struck_fields m)) (trimmed f).struck
  unfolding struck_line
  struck_are =
      let order = (trimmed_at f places table n hit space).order in
      gathered_alike (struck_line f places) (λ i. line (struck_fields (name_of_place p.elements i))) order (λ i m. ap (λ b. line (struck_fields b)) (name i (struck_below f places table n hit space n none_struck i m)))
      ∙ sym (gathered_map (λ m. line (struck_fields m)) (name_of_place p.elements) order)
      ∙ ap (gathered (λ m. line (struck_fields m))) (sym struck_names)

  -- Requests that show the rules that flags leave
  module _ (struck : List ℕ) (shown : List (Found ℕ)) (stays : get_or struck 0 0 ≡ 0) (needed : (i : ℕ) → i < n → get_or shown i None ≡ found (table-level.shown_at f places table n hit space struck i)) where
    -- the line of an element
    kept_line_is : (i : ℕ) → i < n → kept_line f places shown space i ≡ cond (kept_at p struck i) (kept_line_at p struck i) []
    unfolding kept_line table-level.shown_at table-level.first_change_at
    kept_line_is i l = go (test (kept_at p struck i)) (needed i l)
      where
        s : ℕ
        s = space

        change : Option ℕ
        change = table-level.first_change_at f places table n hit space struck i

        rule : rule_left table struck i ≡ kept_at p struck i
        rule = rule_is f p h table places n is size hit space hits_are space_is struck i l

        line_for : Bytes → ℕ → Bytes
        line_for b m = line (bytes "K" ∷ b ∷ decimal m ∷ [])

        go : Test (kept_at p struck i) → get_or shown i None ≡ found (cond (rule_left table struck i) change none) → kept_line f places shown s i ≡ cond (kept_at p struck i) (kept_line_at p struck i) []
        go (passed e) is-found =
            let here : get_or shown i None ≡ found change = is-found ∙ ap (λ b. found (cond b change none)) (rule ∙ e) in
            ap (kept_for f places s i) here
            ∙ found_line f places i (table-level.changes_at f places table n hit struck i) s
            ∙ (λ t. if_some (first_change_is f p h table places n is size hit space hits_are space_is struck stays i e t) (line_for (name i l t)))
            ∙ ap (λ b. cond b (kept_line_at p struck i) []) (sym e)
        go (failed e) is-found =
            let here : get_or shown i None ≡ None = is-found ∙ ap (λ b. found (cond b change none)) (rule ∙ e) in
            rw (here, e)

    -- of all elements
    kept_lines_are : kept_text f places n shown space ≡ gathered (λ i. cond (kept_at p struck i) (kept_line_at p struck i) []) (counting 0 (length p.elements))
    unfolding kept_text
    kept_lines_are =
        gathered_alike (kept_line f places shown space) (λ i. cond (kept_at p struck i) (kept_line_at p struck i) []) (counting 0 n) (λ i m. kept_line_is i (omega (arith, counting_only 0 n i m)))
        ∙ ap (λ k. gathered (λ i. cond (kept_at p struck i) (kept_line_at p struck i) []) (counting 0 k)) (sym size)

  -- the `K` lines
  pub kept_are : (shown : List (Found ℕ)) → get_or (trimmed_at f places table n hit space).flags 0 0 ≡ 0 → ((i : ℕ) → i < n → get_or shown i None ≡ found (table-level.shown_at f places table n hit space (trimmed_at f places table n hit space).flags i))
      → kept_text f places n shown space ≡ gathered (kept_line_of (trimmed f).text) (rule_lines (trimmed f).text)
  kept_are shown stays needed =
      let end = (trimmed_at f places table n hit space).flags in
      kept_lines_are end shown stays needed
      ∙ sym (gathered_keep (kept_at p end) (kept_line_at p end) (counting 0 (length p.elements)))
      ∙ ap (λ t. gathered (kept_line_at p t.flags) (kept_places p t.flags)) same_striking
      ∙ sym (kept_flags f p h n none_struck none_clear (omega (arith, (bounded f p h).few_elements)) (omega (arith, size)))
