-- The letters of the kinds, the words, and the mask of all values.
use mathlib.Core.Path.{◌≡◌}
use Prim.Native.Nat.{ℕ, ◌+◌, ◌≤◌}
use native.Mathlib.Omega.{arith}
use mathlib.Core.List.{List, [], ◌∷◌, ◌++◌}
use lib.ListN.{length, take, length-append}
use lib.Seq.{length-take-le}
use Rattle.meaning.specs.Text.{tab}
use Rattle.meaning.specs.Model.{kind_text, word_text}
use Rattle.laws.proofs.Types.{Kind, set, policy, rule, Word, deny_overrides, permit_overrides, first_applicable, only_one_applicable}
use Rattle.printing.specs.declared.Sink.{Sink}
use Rattle.printing.specs.Puts.{Puts}

one_letter : (k : Kind) → length (kind_text k ++ (tab ∷ [])) ≤ 2
one_letter set = omega arith
one_letter policy = omega arith
one_letter rule = omega arith

short_word : (w : Word) → length (word_text w) ≤ 19
short_word Word.Permit = omega arith
short_word Word.Deny = omega arith
short_word deny_overrides = omega arith
short_word permit_overrides = omega arith
short_word first_applicable = omega arith
short_word only_one_applicable = omega arith

module _ {a b : Sink} where
  -- a kind's letter and its tab
  pub kind_put : {text : List ℕ} (k : Kind) → text ≡ kind_text k → Puts a (text ++ (tab ∷ [])) b → Puts a (kind_text k ++ (tab ∷ [])) b × (b.at ≤ a.at + 2)
  kind_put k is p = let q : Puts a (kind_text k ++ (tab ∷ [])) b = rw is at p in (q, omega (arith, q.wrote.moved, one_letter k))

  -- a word
  pub word_put : {text : List ℕ} (v : Word) → text ≡ word_text v → Puts a text b → Puts a (word_text v) b × (b.at ≤ a.at + 19)
  word_put v is p = let q : Puts a (word_text v) b = rw is at p in (q, omega (arith, q.wrote.moved, short_word v))

  -- a name that stands at the start of its place, and its tab
  pub name_put : (name : List ℕ) (len : ℕ) → len ≤ length name → len ≤ 16 → Puts a (take len name ++ (tab ∷ [])) b → Puts a (take len name ++ (tab ∷ [])) b × (b.at ≤ a.at + 17)
  name_put name len room short p = (p, omega (arith, p.wrote.moved, length-append (take len name) (tab ∷ []), length-take-le len name room))
