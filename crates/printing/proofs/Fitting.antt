-- A text that was counted into an empty buffer, and then laid into a lent one if it fits.
use mathlib.Core.Path.{◌≡◌, ap, ap₂, ◌∙◌, subst}
use Prim.Native.Nat.{ℕ, ◌≤◌, ◌<◌}
use native.Mathlib.Nat.{zero-add}
use native.Mathlib.Omega.{arith}
use mathlib.Core.List.{List, [], ◌++◌, append-nil}
use lib.Dec.{ltb}
use lib.ListN.{length, take, drop}
use lib.Seq.{sets, take-length, drop-length}
use borrow.Author.Tests.{lt-ltb, le-ltb, ltb-true, ltb-false}
use Rattle.meaning.specs.declared.Answer.{Answer}
use Rattle.laws.proofs.Bools.{Test, passed, failed, test}
use Rattle.printing.specs.Wrote.{Wrote}
use Rattle.printing.specs.Fitted.{lendable, text_told, Fitted}
use Rattle.printing.proofs.Laws.{sets_out, at_start}

module _ {x y text : List ℕ} {needed : ℕ} (count : Wrote x 0 text y needed) (old : List ℕ) {r : Answer} (told : r ≡ text_told needed (length old)) where
  counted : needed ≡ length text
  counted = count.moved ∙ zero-add (length text)

  -- it fits, and was laid over the buffer
  pub filling : needed ≤ length old → {new : List ℕ} {m : ℕ} → Wrote old 0 text new m → Fitted old text new r
  filling fits w =
      let enough : length text ≤ length old = omega (arith, fits, counted) in
      let room = le-ltb (length old) (length text) enough in
      record { answers = told ∙ rw (counted, room); lends = rw room (at_start w enough) }

  -- or it does not, and the buffer stays
  pub untouched : length old < needed → Fitted old text old r
  untouched long =
      let none = lt-ltb (length old) (length text) (omega (arith, long, counted)) in
      record { answers = told ∙ rw (counted, none); lends = rw none }

  -- what the answer tells of this
  pub fits : r.number ≡ 0 → needed ≤ length old
  fits zero = go (test (ltb (length old) needed))
    where
      go : Test (ltb (length old) needed) → needed ≤ length old
      go (passed e) = let other : r.number ≡ 11 = ap (λ a. a.number) told ∙ rw e in absurd (omega (arith, zero, other))
      go (failed e) = ltb-false (length old) needed e

  pub too_long : (r.number ≡ 0 → ⊥) → length old < needed
  too_long other = go (test (ltb (length old) needed))
    where
      go : Test (ltb (length old) needed) → length old < needed
      go (passed e) = ltb-true (length old) needed e
      go (failed e) = let zero : r.number ≡ 0 = ap (λ a. a.number) told ∙ rw e in absurd (other zero)

-- a text that is laid into the part that is lent for it, all of the buffer or nothing
module _ {x y text : List ℕ} {needed : ℕ} (count : Wrote x 0 text y needed) where
  counted_text : needed ≡ length text
  counted_text = count.moved ∙ zero-add (length text)

  module _ (old : List ℕ) (lends : ℕ) (is : lends ≡ lendable needed (length old)) where
    pub written : {part : List ℕ} {m : ℕ} {r : Answer} → Wrote (take lends old) 0 text part m → r ≡ text_told needed (length old) → Fitted old text (part ++ drop lends old) r
    written {part} {m} {r} w told = go (test (ltb (length old) (length text)))
      where
        go : Test (ltb (length old) (length text)) → Fitted old text (part ++ drop lends old) r
        go (passed e) =
            let none : lends ≡ 0 = is ∙ rw (counted_text, e) in
            let same-part : part ≡ [] = w.laid ∙ ap (λ k. sets (take k old) 0 text) none ∙ sets_out [] 0 text (omega arith) in
            record { answers = told ∙ rw (counted_text, e); lends = rw e (ap₂ (λ s k. s ++ drop k old) same-part none) }
        go (failed e) =
            let enough = ltb-false (length old) (length text) e in
            let all : lends ≡ length old = is ∙ rw (counted_text, e) in
            let whole = subst (λ l. Wrote l 0 text part m) (ap (λ k. take k old) all ∙ take-length old) w in
            record {
              answers = told ∙ rw (counted_text, e);
              lends = rw e (ap₂ (λ s k. s ++ drop k old) (at_start whole enough) all ∙ ap (λ l. text ++ drop (length text) old ++ l) (drop-length old) ∙ append-nil (text ++ drop (length text) old));
            }
