-- One element more of a proposal: its lines stand there, it is struck, or it is another line.
use mathlib.Core.Path.{◌≡◌, sym, ap}
use Prim.Native.Nat.{ℕ, suc, ◌+◌, ◌-◌, ◌≤◌, ◌<◌}
use native.Mathlib.Nat.{min-le_right}
use native.Mathlib.Omega.{arith}
use mathlib.Core.Bool.{Bool, true, false}
use mathlib.Core.List.{List}
use lib.Dec.{eqb}
use lib.ListN.{length, drop, set, length-drop, length-take}
use lib.Seq.{length-take-le}
use borrow.Author.Tests.{lt-ltb, le-ltb}
use Rattle.meaning.specs.Text.{Bytes, same}
use Rattle.laws.proofs.Text.{same_length, same_true}
use Rattle.table.specs.declared.Row.{Row}
use Rattle.table.specs.Rows.{word_number}
use Rattle.layout.specs.declared.ElementPlaces.{ElementPlaces}
use Rattle.layout.specs.Places.{part, start_of}
use Rattle.trimmed_text.specs.Copied.{lines_end}
use Rattle.left_out.specs.Leaving.{begins, leaving_from, leaving}

-- a text that has too few bytes left does not begin with some
pub too_few : (g f : Bytes) (at start end : ℕ) → end ≤ length f → length g - at < end - start → false ≡ same (part g at (at + (end - start))) (part f start end)
too_few g f at start end inside few =
    let size : length (part f start end) ≡ end - start = length-take-le (end - start) (drop start f) (omega (arith, length-drop start f)) in
    sym (same_length (part g at (at + (end - start))) (part f start end) (λ e. omega (arith, e, size, length-drop at g, length-take (at + (end - start) - at) (drop at g), min-le_right (at + (end - start) - at) (length (drop at g)))))

-- one that begins with them has so many
pub enough : (g f : Bytes) (at start end : ℕ) → at ≤ length g → end ≤ length f → same (part g at (at + (end - start))) (part f start end) ≡ true → at + (end - start) ≤ length g
enough g f at start end here inside e =
    let size : length (part f start end) ≡ end - start = length-take-le (end - start) (drop start f) (omega (arith, length-drop start f)) in
    let own = part g at (at + (end - start)) in
    let alike : length own ≡ length (part f start end) = ap length (same_true own (part f start end) e) in
    omega (arith, size, alike, length-drop at g, length-take (at + (end - start) - at) (drop at g), min-le_right (at + (end - start) - at) (length (drop at g)))

module _ (f : Bytes) (places : List ElementPlaces) (t : List Row) (n : ℕ) (g : Bytes) (struck : List ℕ) where
  -- the bytes before the first element
  pub other_start : begins f places t n g 0 0 (start_of places 0) ≡ false → leaving f places t n g struck ≡ record { whole = false; flags = struck }
  other_start e = rw e

  pub start_matched : begins f places t n g 0 0 (start_of places 0) ≡ true → leaving f places t n g struck ≡ leaving_from f places t n g n 0 (start_of places 0) struck
  start_matched e = rw e

  -- behind the last element
  pub at_end : (i at : ℕ) → i ≤ n → n ≤ i → leaving_from f places t n g (n - i) i at struck ≡ record { whole = eqb at (length g); flags = struck }
  unfolding leaving_from
  at_end i at l m = let none : n - i ≡ 0 = omega arith in rw none

-- element i, whose lines end at `end`
module _ (f : Bytes) (places : List ElementPlaces) (t : List Row) (n : ℕ) (g : Bytes) (i at end : ℕ) (struck : List ℕ) (l : i < n) (ends : end ≡ lines_end f places n i) where
  one_less : n - i ≡ suc (n - (i + 1))
  one_less = omega arith

  abbrev here : Bool
  here = begins f places t n g at (start_of places i) end

  pub matched_next : here ≡ true → leaving_from f places t n g (n - i) i at struck ≡ leaving_from f places t n g (n - (i + 1)) (i + 1) (at + (end - start_of places i)) struck
  unfolding leaving_from
  matched_next e = rw (one_less, ← ends, e)

  pub struck_next : here ≡ false → word_number t i < 2 → leaving_from f places t n g (n - i) i at struck ≡ leaving_from f places t n g (n - (i + 1)) (i + 1) at (set struck i 1)
  unfolding leaving_from
  struck_next e rule = rw (one_less, ← ends, e, lt-ltb (word_number t i) 2 rule)

  pub other_next : here ≡ false → 2 ≤ word_number t i → leaving_from f places t n g (n - i) i at struck ≡ record { whole = false; flags = struck }
  unfolding leaving_from
  other_next e other = rw (one_less, ← ends, e, le-ltb (word_number t i) 2 other)
