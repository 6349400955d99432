-- One obligation more of the last element: the elements with it, and what holds of the places still.
use Prim.Native.Nat.{ℕ, zero, suc, ◌+◌, ◌≤◌, ◌<◌}
use mathlib.Core.Path.{◌≡◌, refl, sym, ap, ◌∙◌}
use mathlib.Core.Logic.{◌≢◌, ⊎_elim}
use mathlib.Core.List.{List, [], ◌∷◌, ◌++◌}
use native.Mathlib.Nat.{eq-or-lt_of_le}
use native.Mathlib.Omega.{arith}
use lib.Dec.{eqb}
use lib.ListN.{length}
use borrow.Author.Tests.{eqb-true, eqb-false}
use Rattle.meaning.specs.Text.{Bytes}
use Rattle.meaning.specs.Model.{obligations_of, with_obligations}
use Rattle.meaning.specs.Reading.{nearest_with}
use Rattle.laws.proofs.Bools.{Test, passed, failed, test}
use Rattle.table.specs.declared.Row.{Row}
use Rattle.layout.specs.declared.ElementPlaces.{ElementPlaces}
use Rattle.layout.specs.Places.{start_of, name_end, obligation_start, obligation_end, obligation_in, obligations_in, obligation_count, element_in, elements_to, Named, Obliged, lines_to, Lined}
use Rattle.layout.proofs.Slots.{SameSlots, obligations_alike, lines_alike, obliged_alike, none_in, obliging, obliging_length, start_here, end_here, other_element, other_slot, lines_start, names_end, obligations_more, count_more}
use Rattle.layout.proofs.Obligations.{obligations_in_lem}

-- it lies in the file, behind the others of element m
pub record Oblige (f : Bytes) (xs : List ElementPlaces) (m k start end : ℕ) : Type 0 where
  pub place : k < 2
  pub counted : obligation_count xs m ≡ k
  pub obliged : Obliged f xs m
  pub starts : start < end
  pub inside : end + 1 < length f
  pub short : end ≤ start + 16

module _ (f : Bytes) (xs : List ElementPlaces) (m k start end : ℕ) (o : Oblige f xs m k start end) where
  abbrev pub more : List ElementPlaces
  more = obliging xs m k start end o.obliged.room o.place

  some : end ≢ 0
  some e = omega (arith, o.starts)

  below : (i : ℕ) → i < m → SameSlots xs more i
  below i l = other_element xs m k start end o.obliged.room o.place i (λ e. omega arith)

  same_start : (i : ℕ) → start_of more i ≡ start_of xs i
  same_start i = lines_start xs m k start end o.obliged.room o.place i

  same_end : (i : ℕ) → name_end more i ≡ name_end xs i
  same_end i = names_end xs m k start end o.obliged.room o.place i

  -- the elements: the last has it behind its others
  behind : obligations_in f more m ≡ obligations_in f xs m ++ (obligation_in f start end ∷ [])
  behind = obligations_more f xs m start end o.obliged.room some o.obliged.in_order k o.place o.counted

  element_old : (table : List Row) (i : ℕ) → i < m → element_in f table more i ≡ element_in f table xs i
  unfolding element_in
  element_old table i l = rw (obligations_alike xs more f i (below i l), same_start i, same_end i)

  elements_old : (table : List Row) (n : ℕ) → n ≤ m → elements_to f table more n ≡ elements_to f table xs n
  unfolding elements_to
  elements_old table zero l = refl
  elements_old table (suc n) l = rw (element_old table n (omega arith), elements_old table n (omega arith))

  element_new : (table : List Row) → element_in f table more m ≡ with_obligations (obligations_of (element_in f table xs m) ++ (obligation_in f start end ∷ [])) (element_in f table xs m)
  unfolding element_in
  element_new table = rw (obligations_in_lem f table xs m, behind, same_start m, same_end m)

  pub elements_obliged : (table : List Row) → elements_to f table more (suc m) ≡ nearest_with (obligation_in f start end) (elements_to f table xs (suc m))
  unfolding elements_to
  elements_obliged table = rw (element_new table, elements_old table m (omega arith))

  -- the names of elements stay
  pub named_still : Named f xs (suc m) → Named f more (suc m)
  named_still named =
      record {
        room = rw (obliging_length xs m k start end o.obliged.room o.place) named.room;
        starts = λ i l. rw (same_start i, same_end i) (named.starts i l);
        ends = λ i l. rw (same_end i) (named.ends i l);
      }

  -- one line more
  same_lines : (n : ℕ) → n ≤ m → lines_to more n ≡ lines_to xs n
  same_lines n l = lines_alike xs more n (λ i h. below i (omega arith))

  pub lined_obliged : (lines : ℕ → ℕ) (a at next : ℕ) → Lined lines xs a (suc m) at → next ≡ lines (suc (a + lines_to xs (suc m))) → Lined lines more a (suc m) next
  unfolding lines_to
  lined_obliged lines a at next lined is =
      record {
        next = is ∙ ap lines (omega (arith, same_lines m (omega arith), o.counted, count_more f xs m start end o.obliged.room some o.obliged.in_order k o.place o.counted));
        starts = λ i l. same_start i ∙ lined.starts i l ∙ ap (λ n. lines (a + n)) (sym (same_lines i (omega arith)));
      }

  -- the obligations lie in the file
  abbrev Slot : ℕ → Type 0
  Slot l = (obligation_start more m l ≤ obligation_end more m l) × (obligation_end more m l ≢ 0 → obligation_end more m l + 1 < length f) × (obligation_end more m l ≤ obligation_start more m l + 16)

  slot : (l : ℕ) → l < 2 → Slot l
  slot l h = go (test (eqb l k))
    where
      go : Test (eqb l k) → Slot l
      go (passed e) =
          let s = start_here xs m k start end o.obliged.room o.place in
          let t = end_here xs m k start end o.obliged.room o.place in
          rw (eqb-true l k e, s, t) (omega (arith, o.starts), λ x. o.inside, o.short)
      go (failed e) =
          let same = other_slot xs m k start end o.obliged.room o.place l h (eqb-false l k e) in
          rw (same.0, same.1) (o.obliged.starts l h, o.obliged.ends l h, o.obliged.short l h)

  first_some : obligation_end more m 0 ≢ 0
  first_some = go (test (eqb 0 k))
    where
      go : Test (eqb 0 k) → obligation_end more m 0 ≢ 0
      go (passed e) = λ none. some (sym (end_here xs m k start end o.obliged.room o.place) ∙ ap (obligation_end more m) (sym (eqb-true 0 k e)) ∙ none)
      go (failed e) = λ none.
          let same = (other_slot xs m k start end o.obliged.room o.place 0 (omega arith) (eqb-false 0 k e)).1 in
          eqb-false 0 k e (omega (arith, (none_in f xs m (sym same ∙ none)).1, o.counted))

  obliged_last : Obliged f more m
  obliged_last =
      record {
        room = rw (obliging_length xs m k start end o.obliged.room o.place) o.obliged.room;
        starts = λ l h. (slot l h).0;
        ends = λ l h. (slot l h).1;
        short = λ l h. (slot l h).2;
        in_order = λ none. absurd (first_some none);
      }

  pub obliged_still : ((i : ℕ) → i < suc m → Obliged f xs i) → (i : ℕ) → i < suc m → Obliged f more i
  obliged_still each i l =
      ⊎_elim
      (λ (e : i ≡ m). rw e obliged_last)
      (λ (h : i < m). obliged_alike xs more f i (obliging_length xs m k start end o.obliged.room o.place) (below i h) (each i l))
      (eq-or-lt_of_le (last i l))
    where
      last : (i : ℕ) → i < suc m → i ≤ m
      last i l = omega arith
