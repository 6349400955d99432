-- Words: those allowed for a kind, as the tests and as the paper have them; a word written and read again.
use mathlib.Core.Path.{◌≡◌, refl, sym, ap, ◌∙◌}
use mathlib.Core.Logic.{inl, inr}
use mathlib.Core.Bool.{false}
use mathlib.Core.List.{List, [], ◌∷◌}
use mathlib.Core.Option.{Option, none, some}
use Rattle.laws.proofs.Types.{Kind, set, policy, rule, Word, deny_overrides, permit_overrides, first_applicable, only_one_applicable, Element}
use Rattle.meaning.specs.Text.{Bytes, is_none}
use Rattle.meaning.specs.Model.{word_text, words}
use Rattle.meaning.specs.Reading.{spelled, word_of, or_permit}
use Rattle.meaning.specs.Claims.PolicyFile.{Allowed}
use Rattle.laws.proofs.Bools.{contradiction}
use Rattle.laws.proofs.Lines.{spelled_some}

-- Allowed words
abbrev pub HasWord : Element → Type 0
HasWord e = is_none (word_of e.kind (word_text e.word)) ≡ false

pub word_allowed : (k : Kind) (w : Word) → is_none (word_of k (word_text w)) ≡ false → Allowed k w
word_allowed rule Word.Permit h = inl refl
word_allowed rule Word.Deny h = inr refl
word_allowed rule deny_overrides h = contradiction refl h
word_allowed rule permit_overrides h = contradiction refl h
word_allowed rule first_applicable h = contradiction refl h
word_allowed rule only_one_applicable h = contradiction refl h
word_allowed policy Word.Permit h = contradiction refl h
word_allowed policy Word.Deny h = contradiction refl h
word_allowed policy deny_overrides h = inl refl
word_allowed policy permit_overrides h = inr (inl refl)
word_allowed policy first_applicable h = inr (inr refl)
word_allowed policy only_one_applicable h = contradiction refl h
word_allowed set Word.Permit h = contradiction refl h
word_allowed set Word.Deny h = contradiction refl h
word_allowed set deny_overrides h = inl refl
word_allowed set permit_overrides h = inr (inl refl)
word_allowed set first_applicable h = inr (inr (inl refl))
word_allowed set only_one_applicable h = inr (inr (inr refl))

pub allowed_word : (k : Kind) (w : Word) → Allowed k w → is_none (word_of k (word_text w)) ≡ false
allowed_word rule w (inl e) = rw e
allowed_word rule w (inr e) = rw e
allowed_word policy w (inl e) = rw e
allowed_word policy w (inr (inl e)) = rw e
allowed_word policy w (inr (inr e)) = rw e
allowed_word set w (inl e) = rw e
allowed_word set w (inr (inl e)) = rw e
allowed_word set w (inr (inr (inl e))) = rw e
allowed_word set w (inr (inr (inr e))) = rw e

-- A word that passed is written as it was read
pub word_again : (k : Kind) (w : Bytes) → is_none (word_of k w) ≡ false → word_text (or_permit (word_of k w)) ≡ w
word_again k w h = go (word_of k w) refl h
  where
    go : (o : Option Word) → word_of k w ≡ o → is_none o ≡ false → word_text (or_permit o) ≡ w
    go none e h = contradiction refl h
    go (some x) e h = spelled_some word_text w (words k) x e

pub word_had : (k : Kind) (w : Bytes) → is_none (word_of k w) ≡ false → is_none (word_of k (word_text (or_permit (word_of k w)))) ≡ false
word_had k w h = ap (λ t. is_none (word_of k t)) (word_again k w h) ∙ h

-- and one that is written is read so
abbrev every_word : List Word
every_word = Word.Permit ∷ Word.Deny ∷ deny_overrides ∷ permit_overrides ∷ first_applicable ∷ only_one_applicable ∷ []

word_read : (w : Word) → spelled word_text (word_text w) every_word ≡ some w
word_read Word.Permit = refl
word_read Word.Deny = refl
word_read deny_overrides = refl
word_read permit_overrides = refl
word_read first_applicable = refl
word_read only_one_applicable = refl

pub word_same : (v w : Word) → word_text v ≡ word_text w → v ≡ w
word_same v w h = let e : some v ≡ some w = sym (word_read v) ∙ ap (λ t. spelled word_text t every_word) h ∙ word_read w in cc

pub word_back : (k : Kind) (w : Word) → is_none (word_of k (word_text w)) ≡ false → or_permit (word_of k (word_text w)) ≡ w
word_back k w h = word_same (or_permit (word_of k (word_text w))) w (word_again k (word_text w) h)
