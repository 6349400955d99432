-- A proposal that is matched to its end is the text that the flags leave.
use mathlib.Core.Path.{◌≡◌, refl, sym, ap, ap₂, ◌∙◌}
use Prim.Native.Nat.{ℕ, zero, suc, ◌+◌, ◌-◌, ◌≤◌, ◌<◌}
use native.Mathlib.Numerals.{add-one}
use native.Mathlib.Omega.{arith}
use mathlib.Core.Bool.{true, false, cond}
use mathlib.Core.List.{List, [], ◌++◌}
use lib.Dec.{eqb, ltb}
use lib.ListN.{length, get_or, take, drop, set, length-set, take-append-drop, drop_of_length-le}
use lib.Seq.{drop-drop, get_or-set_same, get_or-set_other}
use borrow.Author.Tests.{eqb-true, eq-eqb}
use Rattle.meaning.specs.Text.{Bytes, gathered, counting}
use Rattle.laws.proofs.Bools.{Test, passed, failed, test, contradiction}
use Rattle.laws.proofs.Text.{same_true}
use Rattle.table.specs.declared.Row.{Row}
use Rattle.table.specs.Rows.{word_number}
use Rattle.layout.specs.declared.ElementPlaces.{ElementPlaces}
use Rattle.layout.specs.Places.{part, start_of}
use Rattle.trimmed_text.specs.Copied.{lines_end, piece_at, copied}
use Rattle.left_out.specs.Leaving.{Leaving, begins, leaving_from, leaving}

-- no element from i on is struck
abbrev pub ClearFrom : ℕ → List ℕ → Type 0
ClearFrom i struck = (j : ℕ) → i ≤ j → get_or struck j 0 ≡ 0

pub clear_next : (i flag : ℕ) (struck : List ℕ) → ClearFrom i struck → ClearFrom (i + 1) (set struck i flag)
clear_next i flag struck clear j l = get_or-set_other struck i j flag 0 (λ e. omega (arith, e)) ∙ clear j (omega arith)

module _ (f : Bytes) (places : List ElementPlaces) (t : List Row) (n : ℕ) (g : Bytes) where
  abbrev from : (m i at : ℕ) → List ℕ → Leaving
  from = leaving_from f places t n g

  -- Three ways: element i's lines stand there, it is a rule and is struck, or it is another line
  pub data Way (m i at : ℕ) (struck : List ℕ) : Type 0 where
    stands : begins f places t n g at (start_of places i) (lines_end f places n i) ≡ true → from (suc m) i at struck ≡ from m (i + 1) (at + (lines_end f places n i - start_of places i)) struck → Way m i at struck
    is_struck : begins f places t n g at (start_of places i) (lines_end f places n i) ≡ false → ltb (word_number t i) 2 ≡ true → from (suc m) i at struck ≡ from m (i + 1) at (set struck i 1) → Way m i at struck
    is_other : begins f places t n g at (start_of places i) (lines_end f places n i) ≡ false → ltb (word_number t i) 2 ≡ false → from (suc m) i at struck ≡ record { whole = false; flags = struck } → Way m i at struck

  pub way : (m i at : ℕ) (struck : List ℕ) → Way m i at struck
  unfolding leaving_from
  way m i at struck = go (test (begins f places t n g at (start_of places i) (lines_end f places n i))) (test (ltb (word_number t i) 2))
    where
      go : Test (begins f places t n g at (start_of places i) (lines_end f places n i)) → Test (ltb (word_number t i) 2) → Way m i at struck
      go (passed e) w = stands e (rw e)
      go (failed e) (passed w) = is_struck e w (rw (e, w))
      go (failed e) (failed w) = is_other e w (rw (e, w))

  -- flags of elements passed stay
  pub flags_below : (m i at : ℕ) (struck : List ℕ) (j : ℕ) → j < i → get_or (from m i at struck).flags j 0 ≡ get_or struck j 0
  unfolding leaving_from
  flags_below zero i at struck j l = refl
  flags_below (suc m) i at struck j l = go (way m i at struck) (λ at struck. flags_below m (i + 1) at struck j (omega arith))
    where
      go : Way m i at struck → ((at : ℕ) (flags : List ℕ) → get_or (from m (i + 1) at flags).flags j 0 ≡ get_or flags j 0) → get_or (from (suc m) i at struck).flags j 0 ≡ get_or struck j 0
      go (stands e is) later = ap (λ x. get_or x.flags j 0) is ∙ later (at + (lines_end f places n i - start_of places i)) struck
      go (is_struck e w is) later = ap (λ x. get_or x.flags j 0) is ∙ later at (set struck i 1) ∙ get_or-set_other struck i j 1 0 (λ e. omega (arith, e))
      go (is_other e w is) later = ap (λ x. get_or x.flags j 0) is

  -- the bytes from a place on are the lines of the elements left
  text_left_lem : (m i at : ℕ) (struck : List ℕ) → i + m ≤ length struck → ClearFrom i struck → (from m i at struck).whole ≡ true
      → drop at g ≡ gathered (piece_at f places (from m i at struck).flags n) (counting i m)
  unfolding leaving_from
  text_left_lem zero i at struck room clear whole = let end : length g ≤ at = omega (arith, eqb-true at (length g) whole) in drop_of_length-le g end
  text_left_lem (suc m) i at struck room clear whole = go (way m i at struck) (text_left_lem m (i + 1))
    where
      start : ℕ
      start = start_of places i

      end : ℕ
      end = lines_end f places n i

      go : Way m i at struck → ((at : ℕ) (struck : List ℕ) → i + 1 + m ≤ length struck → ClearFrom (i + 1) struck → (from m (i + 1) at struck).whole ≡ true → drop at g ≡ gathered (piece_at f places (from m (i + 1) at struck).flags n) (counting (i + 1) m))
          → drop at g ≡ gathered (piece_at f places (from (suc m) i at struck).flags n) (counting i (suc m))
      go (stands e is) later =
          let next = at + (end - start) in
          let flags = (from m (i + 1) next struck).flags in
          let rest = later next struck (omega arith) (λ j l. clear j (omega arith)) (sym (ap (λ x. x.whole) is) ∙ whole) in
          let size : next - at ≡ end - start = omega arith in
          let there : at + (next - at) ≡ next = omega arith in
          let left : eqb (get_or flags i 0) 0 ≡ true = eq-eqb (get_or flags i 0) 0 (flags_below m (i + 1) next struck i (omega arith) ∙ clear i (omega arith)) in
          sym (take-append-drop (next - at) (drop at g))
          ∙ ap₂ (λ x y. x ++ y) (same_true (part g at next) (part f start end) e) (drop-drop (next - at) at g ∙ ap (λ k. drop k g) there ∙ rest)
          ∙ ap₂ (λ b k. cond b (part f start end) [] ++ gathered (piece_at f places flags n) (counting k m)) (sym left) (add-one i)
          ∙ ap (λ x. gathered (piece_at f places x.flags n) (counting i (suc m))) (sym is)
      go (is_struck e w is) later =
          let flags = (from m (i + 1) at (set struck i 1)).flags in
          let rest = later at (set struck i 1) (omega (arith, length-set struck i 1)) (clear_next i 1 struck clear) (sym (ap (λ x. x.whole) is) ∙ whole) in
          let gone : eqb (get_or flags i 0) 0 ≡ false = ap (λ x. eqb x 0) (flags_below m (i + 1) at (set struck i 1) i (omega arith) ∙ get_or-set_same struck i 1 0 (omega arith)) in
          rest
          ∙ ap₂ (λ b k. cond b (part f start end) [] ++ gathered (piece_at f places flags n) (counting k m)) (sym gone) (add-one i)
          ∙ ap (λ x. gathered (piece_at f places x.flags n) (counting i (suc m))) (sym is)
      go (is_other e w is) later = contradiction whole (ap (λ x. x.whole) is)

  -- and so is the whole proposal
  pub whole_text : (struck : List ℕ) → n ≤ length struck → ClearFrom 0 struck → (leaving f places t n g struck).whole ≡ true → g ≡ copied f places (leaving f places t n g struck).flags n
  unfolding copied
  whole_text struck room clear whole = go (test (begins f places t n g 0 0 (start_of places 0)))
    where
      first : ℕ
      first = start_of places 0

      go : Test (begins f places t n g 0 0 first) → g ≡ part f 0 first ++ gathered (piece_at f places (leaving f places t n g struck).flags n) (counting 0 n)
      go (passed e) =
          let size : 0 + (first - 0) - 0 ≡ first = omega arith in
          let head : take first g ≡ part f 0 first = ap (λ k. take k g) (sym size) ∙ same_true (part g 0 (0 + (first - 0))) (part f 0 first) e in
          rw e (sym (take-append-drop first g) ∙ ap₂ (λ x y. x ++ y) head (text_left_lem n 0 first struck (omega arith) clear (rw e at whole)))
      go (failed e) = contradiction whole (rw e)
