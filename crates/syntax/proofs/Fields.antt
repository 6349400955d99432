-- Laws of the first field, the depth and the word of a tree line.
use Rattle.std.specs.Prelude.{Option as Found}
use Rattle.std.specs.Option.{is_some}
use mathlib.Core.Path.{◌≡◌, refl, sym, ap, ◌∙◌}
use mathlib.Core.Logic.{◌≢◌}
use Prim.Native.Nat.{◌-◌}
use native.Mathlib.Omega.{arith}
use mathlib.Core.Bool.{Bool, true, false, cond, not, and-false}
use mathlib.Core.List.{[], ◌∷◌}
use mathlib.Core.Option.{Option, none, some}
use lib.ListN.{length, get_or}
use borrow.Author.Tests.{not-true, not-false}
use Rattle.meaning.specs.Text.{Bytes, is_none, between}
use Rattle.meaning.specs.Model.{letter_text}
use Rattle.meaning.specs.Reading.{kind_of, attribute_letter, obligation_letter, depth_of}
use Rattle.laws.proofs.Types.{Kind, Word}
use Rattle.laws.proofs.Bools.{Test, passed, failed, test}
use Rattle.laws.proofs.Lines.{letter_is}
use Rattle.laws.specs.Found.{found}
use Rattle.syntax.specs.Fields.{line_kind}
use Rattle.syntax.specs.declared.LineKind.{LineKind}

-- First field: what each answer says of it
abbrev pub ByLetter : Bytes → LineKind → Type 0
ByLetter f (LineKind.Attribute several) = f ≡ letter_text several
ByLetter f (LineKind.Tree k) = (attribute_letter f ≡ false) × (obligation_letter f ≡ false) × (kind_of f ≡ some k)
ByLetter f LineKind.Obligation = (attribute_letter f ≡ false) × (obligation_letter f ≡ true)
ByLetter f LineKind.Other = (attribute_letter f ≡ false) × (obligation_letter f ≡ false) × (kind_of f ≡ none)

pub by_letter : (f : Bytes) → ByLetter f (line_kind f)
by_letter f = go (test (attribute_letter f)) (test (obligation_letter f)) (kind_of f) refl
  where
    go : Test (attribute_letter f) → Test (obligation_letter f) → (k : Option Kind) → kind_of f ≡ k → ByLetter f (line_kind f)
    go (passed a) t k i = rw a (letter_is f a)
    go (failed a) (passed o) k i = rw (a, o) (a, o)
    go (failed a) (failed o) none i = rw (a, o, i) (a, o, i)
    go (failed a) (failed o) (some k) i = rw (a, o, i) (a, o, i)

-- a field of one byte goes by that byte, any other is none
pub kind_byte : (f : Bytes) → length f ≡ 1 → line_kind (get_or f 0 0 ∷ []) ≡ line_kind f
kind_byte [] h = absurd (omega arith)
kind_byte (x ∷ []) h = refl
kind_byte (x ∷ y ∷ ys) h = absurd (omega arith)

pub kind_other : (f : Bytes) → length f ≢ 1 → LineKind.Other ≡ line_kind f
kind_other [] h = refl
kind_other (x ∷ []) h = absurd (h refl)
kind_other (x ∷ y ∷ ys) h = rw (and-false, and-false, and-false, and-false, and-false, and-false)

-- Depth: a field of one byte goes by that byte, any other is none
pub depth_byte : (f : Bytes) → length f ≡ 1 → depth_of f ≡ cond (between 48 55 (get_or f 0 0)) (get_or f 0 0 - 48) 8
depth_byte [] h = absurd (omega arith)
depth_byte (x ∷ []) h = refl
depth_byte (x ∷ y ∷ ys) h = absurd (omega arith)

pub depth_other : (f : Bytes) → length f ≢ 1 → depth_of f ≡ 8
depth_other [] h = refl
depth_other (x ∷ []) h = absurd (h refl)
depth_other (x ∷ y ∷ ys) h = refl

-- Word: whether none was found
pub no_word : (o : Option Word) {r : Found Word} {b : Bool} → r ≡ found o → is_some r ≡ not b → is_none o ≡ b
no_word none {b = b} e h = sym (not-false b (sym h ∙ ap is_some e))
no_word (some w) {b = b} e h = sym (not-true b (sym h ∙ ap is_some e))
