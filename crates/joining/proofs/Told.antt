-- What joining two files answers, and leaves in the buffer.
use mathlib.Core.Path.{◌≡◌, refl, sym, ap, ap₂, ◌∙◌, subst}
use mathlib.Core.List.{List}
use mathlib.Core.Option.{Option, none, some}
use Prim.Native.Nat.{ℕ, suc, ◌+◌, ◌≤◌, ◌<◌}
use native.Mathlib.Nat.{zero-add}
use native.Mathlib.Omega.{arith}
use mathlib.Core.Bool.{Bool, true, false, false≢true, true≢false}
use lib.ListN.{length, take, drop, length-map}
use lib.Seq.{length-sets, length-take-le, take-append_seam}
use borrow.Author.Tests.{lt-ltb}
use Rattle.meaning.specs.declared.Answer.{Answer}
use Rattle.meaning.specs.declared.Word.{Word}
use Rattle.meaning.specs.declared.Kind.{Kind}
use Rattle.meaning.specs.Text.{Bytes, is_none}
use Rattle.meaning.specs.Model.{Attribute, Policy, Result, refused, given, ◌then◌, fitted, word_text, words}
use Rattle.meaning.specs.Reading.{word_of, read}
use Rattle.meaning.specs.Joining.{both, place_in, first_differing, joined_text, joined, join_file}
use Rattle.meaning.specs.Operations.{answered, lent, join_answer, join_lent}
use Rattle.laws.proofs.Lines.{spelled_some}
use Rattle.layout.specs.declared.Attributes.{Attributes}
use Rattle.layout.specs.Places.{attributes_of}
use Rattle.printing.specs.Wrote.{Wrote}
use Rattle.printing.specs.Fitted.{Fitted}
use Rattle.printing.proofs.Laws.{at_start}
use Rattle.joined_attributes.specs.declared.Placing.{Placing}
use Rattle.joined_attributes.specs.Placing.{listed, places_in}
use Rattle.joining.specs.Held.{FileHeld, if_accepted, Accepted}

-- the part of a buffer that a text was laid into
pub laid_part : {x t y : List ℕ} {needed : ℕ} → Wrote x 0 t y needed → needed ≤ length x → needed ≡ length (take needed y)
laid_part {x} {t} {y} {needed} w l = sym (length-take-le needed y (omega (arith, ap length w.laid, length-sets x 0 t)))

-- A text that reading refuses, and one that it accepts
module _ (t old : Bytes) (r : Answer) where
  pub text_refused : (n m : ℕ) → read t ≡ refused n m → r ≡ record { number = n; second = m } → Accepted t old old r
  text_refused n m e is = record { answers = is ∙ sym (ap (λ x. answered length (x then λ j. fitted (length old) t)) e); lends = sym (ap (λ x. lent old (x then λ j. fitted (length old) t)) e) }

  pub text_accepted : (j : Policy) (new : Bytes) → read t ≡ given j → Fitted old t new r → Accepted t old new r
  text_accepted j new e w = record {
    answers = w.answers ∙ sym (ap (λ x. answered length (x then λ j. fitted (length old) t)) e);
    lends = w.lends ∙ sym (ap (λ x. lent old (x then λ j. fitted (length old) t)) e);
  }

-- A second file that reading refuses
pub second_refused : (f g w old : Bytes) (a : Attributes) (from : ℕ) → FileHeld f a from → (n m : ℕ) → read g ≡ refused n m → {r : Answer} → r ≡ record { number = n; second = m } → (r ≡ join_answer f g w old) × (old ≡ join_lent f g w old)
unfolding join_file
second_refused f g w old a from held n m e is = (is ∙ sym (rw (held.is_read, e)), sym (rw (held.is_read, e)))

-- A word of the four is short
word_short : (w : Word) → length (word_text w) ≤ 32
word_short Word.Permit = omega arith
word_short Word.Deny = omega arith
word_short Word.DenyOverrides = omega arith
word_short Word.PermitOverrides = omega arith
word_short Word.FirstApplicable = omega arith
word_short Word.OnlyOneApplicable = omega arith

-- that there is none, or one
module _ (o : Option Word) {none_there : Bool} (is : is_none o ≡ none_there) where
  word_there : none_there ≡ false → (v : Word) × (o ≡ some v)
  word_there h = go o (is ∙ h)
    where
      go : (o : Option Word) → is_none o ≡ false → (v : Word) × (o ≡ some v)
      go none e = absurd (true≢false e)
      go (some v) e = (v, refl)

  no_word : none_there ≡ true → o ≡ none
  no_word h = go o (is ∙ h)
    where
      go : (o : Option Word) → is_none o ≡ true → o ≡ none
      go none e = refl
      go (some v) e = absurd (false≢true e)

pub short_word : (w : Bytes) {none_there : Bool} → is_none (word_of Kind.Set w) ≡ none_there → none_there ≡ false → length w ≤ 32
short_word w is h =
    let (v, is_word) = word_there (word_of Kind.Set w) is h in
    subst (λ t. length t ≤ 32) (spelled_some word_text w (words Kind.Set) v is_word) (word_short v)

-- What the two files give, by their attributes
module _ (w : Bytes) {f g : Bytes} {a b : Attributes} {from other : ℕ} (first-held : FileHeld f a from) (second-held : FileHeld g b other) where
  abbrev first : List Attribute
  first = attributes_of f a

  abbrev second : List Attribute
  second = attributes_of g b

  abbrev text : Bytes
  text = joined_text w f first g second

  both_read : (room : ℕ) → join_file room f g w ≡ (joined w f first g second then fitted room)
  unfolding join_file
  both_read room = rw (first-held.is_read, second-held.is_read, first-held.attributes, second-held.attributes)

  given_then : (x : Result Policy) (room : ℕ) → ((x then λ j. given text) then fitted room) ≡ (x then λ j. fitted room text)
  given_then (refused n m) room = refl
  given_then (given j) room = refl

  -- no attribute differs
  module _ (none_differ : first_differing first 1 second ≡ none) {none_there : Bool} (word-is : is_none (word_of Kind.Set w) ≡ none_there) where
    word_told : none_there ≡ true → (room : ℕ) → join_file room f g w ≡ refused 7 (suc (length (both first second)))
    unfolding joined
    word_told h room = both_read room ∙ rw (none_differ, no_word (word_of Kind.Set w) word-is h)

    text_told_lem : none_there ≡ false → (room : ℕ) → join_file room f g w ≡ if_accepted room text
    unfolding joined
    text_told_lem h room =
        let (v, is) = word_there (word_of Kind.Set w) word-is h in
        both_read room ∙ rw (none_differ, is) (given_then (read text) room)

  -- A text that is too long, and one that is laid down in a buffer that is long enough
  too_long : 16384 < length text → read text ≡ refused 1 0
  unfolding read
  too_long l = rw (lt-ltb 16384 (length text) l)

  -- what the contract says of a buffer
  abbrev Joins : Bytes → Bytes → Answer → Type 0
  Joins old new r = record { value : r ≡ join_answer f g w old; out_after : new ≡ join_lent f g w old }

  told : (old : Bytes) {r : Answer} (n m : ℕ) → join_file (length old) f g w ≡ refused n m → r ≡ record { number = n; second = m } → Joins old old r
  told old n m e is = record { value = is ∙ sym (ap (answered length) e); out_after = sym (ap (lent old) e) }

  module _ (old : Bytes) where
    pub differs_told : {line : ℕ} → first_differing first 1 second ≡ some line → {r : Answer} → r ≡ record { number = 19; second = line } → Joins old old r
    unfolding joined
    differs_told {line} e is = told old 19 line (both_read (length old) ∙ rw e) is

    module _ (none_differ : first_differing first 1 second ≡ none) {none_there : Bool} (word-is : is_none (word_of Kind.Set w) ≡ none_there) where
      pub no_word_told : none_there ≡ true → (p : Placing) → p ≡ listed (places_in first (both first second)) → {r : Answer} → r ≡ record { number = 7; second = p.len + 1 } → Joins old old r
      no_word_told h p is answers =
          let size : p.len + 1 ≡ suc (length (both first second)) = omega (arith, ap (λ x. x.len) is, length-map (both first second) (λ c. place_in first c.name)) in
          told old 7 (suc (length (both first second))) (word_told none_differ word-is h (length old)) (answers ∙ ap (λ k. record { number = 7; second = k }) size)

      module _ (h : none_there ≡ false) {x y : List ℕ} {needed : ℕ} (laid : Wrote x 0 text y needed) where
        counted : needed ≡ length text
        counted = laid.moved ∙ zero-add (length text)

        pub too_long_told : 16384 < needed → {r : Answer} → r ≡ record { number = 1; second = 0 } → Joins old old r
        too_long_told l is =
            told old 1 0 (text_told_lem none_differ word-is h (length old) ∙ ap (λ x. x then λ j. fitted (length old) text) (too_long (omega (arith, counted)))) is

        -- the text stands at the start of what it was laid into
        stands : needed ≤ length x → take needed y ≡ text
        stands l = ap₂ take counted (at_start laid (omega (arith, counted))) ∙ take-append_seam text (drop (length text) x)

        pub text_joined : {new : Bytes} {r : Answer} → needed ≤ length x → Accepted (take needed y) old new r → Joins old new r
        text_joined {new} {r} l accepted =
            let e = text_told_lem none_differ word-is h (length old) in
            let a = subst (λ t. Accepted t old new r) (stands l) accepted in
            record { value = a.answers ∙ sym (ap (answered length) e); out_after = a.lends ∙ sym (ap (lent old) e) }
