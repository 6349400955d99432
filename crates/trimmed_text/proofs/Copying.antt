-- The text of the lines left, element by element: where an element's lines lie, and what they add to the text.
use mathlib.Core.Path.{◌≡◌}
use Prim.Native.Nat.{ℕ, ◌+◌, ◌-◌, ◌≤◌, ◌<◌}
use native.Mathlib.Omega.{arith}
use mathlib.Core.Bool.{cond}
use mathlib.Core.List.{List}
use lib.Dec.{ltb}
use lib.ListN.{length, drop, get_or, length-drop}
use lib.Seq.{length-take-le}
use borrow.Author.Tests.{ltb-true, lt-ltb, le-ltb, eq-eqb, ne_eqb}
use Rattle.meaning.specs.Text.{Bytes}
use Rattle.laws.proofs.Bools.{Test, passed, failed, test}
use Rattle.layout.specs.declared.ElementPlaces.{ElementPlaces}
use Rattle.layout.specs.Places.{part, start_of}
use Rattle.printing.specs.declared.Sink.{Sink}
use Rattle.printing.specs.Puts.{Puts}
use Rattle.printing.proofs.Laws.{same_text}
use Rattle.trimmed_text.specs.Copied.{lines_end, piece_at, Copies, Piece}

length_part : (f : Bytes) (a b : ℕ) → b ≤ length f → length (part f a b) ≡ b - a
length_part f a b l = length-take-le (b - a) (drop a f) (omega (arith, length-drop a f))

module _ (f : Bytes) (places : List ElementPlaces) (n : ℕ) where
  -- where element i's line starts, or the file's end where there is no such element
  abbrev pub reached : ℕ → ℕ
  reached i = cond (ltb i n) (start_of places i) (length f)

  pub reached_line : (i : ℕ) → i < n → reached i ≡ start_of places i
  reached_line i l = rw (lt-ltb i n l)

  pub reached_end : (i : ℕ) → n ≤ i → reached i ≡ length f
  reached_end i l = rw (le-ltb i n l)

module _ (f : Bytes) (places : List ElementPlaces) (struck : List ℕ) (n : ℕ) where
  -- What is left of an element's lines: nothing, or all up to the next element or the file's end
  module _ (h : Copies f places struck n) (i : ℕ) (l : i < n) where
    pub lines_lie : (start_of places i ≤ lines_end f places n i) × (lines_end f places n i ≤ length f)
    lines_lie = go (test (ltb (i + 1) n))
      where
        go : Test (ltb (i + 1) n) → (start_of places i ≤ lines_end f places n i) × (lines_end f places n i ≤ length f)
        go (passed e) = let more = ltb-true (i + 1) n e in rw e (h.rising i more, h.inside (i + 1) more)
        go (failed e) = rw e (h.inside i l, omega arith)

    pub piece_struck : (get_or struck i 0 ≡ 0 → ⊥) → Piece f places struck n i (start_of places i)
    piece_struck flag =
        let nothing : start_of places i - start_of places i ≡ 0 = omega arith in
        record { is = rw (ne_eqb (get_or struck i 0) 0 flag, nothing); starts = omega arith; ends = lines_lie.0; inside = h.inside i l }

    pub piece_left : get_or struck i 0 ≡ 0 → Piece f places struck n i (lines_end f places n i)
    piece_left flag = record { is = rw (eq-eqb (get_or struck i 0) 0 flag); starts = lines_lie.0; ends = omega arith; inside = lines_lie.1 }

  pub length_head : Copies f places struck n → length (part f 0 (start_of places 0)) ≡ start_of places 0
  length_head h = omega (arith, length_part f 0 (start_of places 0) (h.inside 0 h.some))

  -- one more element's lines left: how long they are, and stored behind the others
  module _ (i e : ℕ) (p : Piece f places struck n i e) where
    pub length_piece : length (part f (start_of places i) e) ≡ e - start_of places i
    length_piece = length_part f (start_of places i) e p.inside

    pub piece_stored : {a b : Sink} → Puts a (part f (start_of places i) e) b → Puts a (piece_at f places struck n i) b × (b.at ≤ a.at + length f)
    piece_stored {a} {b} put = (same_text p.is put, omega (arith, put.wrote.moved, length_piece, p.inside))
