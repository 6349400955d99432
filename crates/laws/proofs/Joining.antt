-- Joining: the text that is given, what it decides, and what is refused instead.
use mathlib.Core.Path.{◌≡◌, refl, sym, ap, ◌∙◌, subst}
use Prim.Native.Nat.{ℕ, suc}
use native.Mathlib.Omega.{arith}
use mathlib.Core.Bool.{false}
use mathlib.Core.List.Memᴰ
use mathlib.Core.List.{List, [], ◌∷◌, Memᴰ}
use mathlib.Core.Option.{Option, none, some}
use lib.ListN.{length}
use Rattle.meaning.specs.Text.{Bytes, any, is_none}
use Rattle.meaning.specs.Model.{Attribute, Policy, Result, refused, given, unless, unless_found, ◌then◌, word_text, words}
use Rattle.meaning.specs.Reading.{word_of, lowest, read}
use Rattle.meaning.specs.Joining.{both, differs, first_differing, joined_text, joined}
use Rattle.meaning.specs.Claims.Texts.{All}
use Rattle.meaning.specs.Claims.PolicyFile.{GoodAttribute, Allowed}
use Rattle.meaning.specs.Claims.Joining.{Differing, JoinedAttributes, JoinedText, Joins, Unjoined, attribute_differs, no_such_word, not_read}
use Rattle.laws.proofs.Types.{set, Word}
use Rattle.laws.proofs.Lines.{spelled_some}
use Rattle.laws.proofs.Words.{word_allowed}
use Rattle.laws.proofs.Reading.{refused-given, given_given}
use Rattle.laws.proofs.FirstBad.{refused_refused}
use Rattle.laws.proofs.Bounds.{all_has, bounded}
use Rattle.laws.proofs.Rows.{word_row}
use Rattle.laws.proofs.Refused.{refuses}
use Rattle.laws.proofs.WellFormed.{all_before}
use Rattle.laws.proofs.JoinedText.{joined_text_lem}
use Rattle.laws.proofs.Differing.{joined_attributes, differing, none_differ, FirstOne, first_differing_lem}
use Rattle.laws.proofs.Standing.{no_difference}
use Rattle.laws.proofs.DecidesOver.{decides_over}
use Rattle.laws.proofs.JoinedPolicy.{joined_policy}

module _ (f : Bytes) (p : Policy) (g : Bytes) (q : Policy) (hp : read f ≡ given p) (hq : read g ≡ given q) (w : Bytes) where
  abbrev text : Bytes
  text = joined_text w f p.attributes g q.attributes

  abbrev attrs : List Attribute
  attrs = both p.attributes q.attributes

  abbrev found : Option ℕ
  found = first_differing p.attributes 1 q.attributes

  -- What is told, by what is found first
  data Verdict : Result Bytes → Type 0 where
    difference : (n : ℕ) → found ≡ some n → Verdict (refused 19 n)
    no_word : found ≡ none → word_of set w ≡ none → Verdict (refused 7 (suc (length attrs)))
    not_a_file : (v : Word) (n m : ℕ) → found ≡ none → word_of set w ≡ some v → read text ≡ refused n m → Verdict (refused n m)
    a_file : (v : Word) (j : Policy) → found ≡ none → word_of set w ≡ some v → read text ≡ given j → Verdict (given text)

  verdict : Verdict (joined w f p.attributes g q.attributes)
  unfolding joined
  verdict = by_attribute found refl (word_of set w) refl (read text) refl
    where
      by_text : (v : Word) → found ≡ none → word_of set w ≡ some v → (r : Result Policy) → read text ≡ r → Verdict (r then λ j. given text)
      by_text v d e (refused n m) i = not_a_file v n m d e i
      by_text v d e (given j) i = a_file v j d e i

      by_word : found ≡ none → (o : Option Word) → word_of set w ≡ o → (r : Result Policy) → read text ≡ r → Verdict (unless (lowest ((7, is_none o) ∷ [])) (suc (length attrs)) (r then λ j. given text))
      by_word d none e r i = no_word d e
      by_word d (some v) e r i = by_text v d e r i

      by_attribute : (d : Option ℕ) → found ≡ d → (o : Option Word) → word_of set w ≡ o → (r : Result Policy) → read text ≡ r
          → Verdict (unless_found 19 d (unless (lowest ((7, is_none o) ∷ [])) (suc (length attrs)) (r then λ j. given text)))
      by_attribute none d o e r i = by_word d o e r i
      by_attribute (some n) d o e r i = difference n d

  first_good : All GoodAttribute p.attributes
  first_good = (bounded f p hp).attributes_good

  second_good : All GoodAttribute q.attributes
  second_good = (bounded g q hq).attributes_good

  all_alike : found ≡ none → (b : Attribute) → Memᴰ b q.attributes → Differing p.attributes b → ⊥
  all_alike d = none_differ p.attributes q.attributes first_good second_good (no_difference p.attributes 1 q.attributes d)

  spelled : (v : Word) → word_of set w ≡ some v → w ≡ word_text v
  spelled v e = sym (spelled_some word_text w (words set) v e)

  allowed : (v : Word) → word_of set w ≡ some v → Allowed set v
  allowed v e = word_allowed set v (ap (λ t. is_none (word_of set t)) (sym (spelled v e)) ∙ ap is_none e)

  -- The text that is given, with what its policy decides
  pub joining : (t : Bytes) → joined w f p.attributes g q.attributes ≡ given t → Joins w f p g q t
  joining t e = go verdict e
    where
      go : {r : Result Bytes} → Verdict r → r ≡ given t → Joins w f p g q t
      go (difference n d) i = refused-given i
      go (no_word d x) i = refused-given i
      go (not_a_file v n m d x y) i = refused-given i
      go (a_file v j d x y) i =
          let s = joined_policy w f p g q v j hp hq x d y in
          subst (Joins w f p g q) (given_given i) (record {
            none_differ = all_alike d;
            word = v;
            allowed = allowed v x;
            is_word = spelled v x;
            policy = j;
            is_accepted = y;
            attributes = subst (JoinedAttributes p.attributes q.attributes) (sym s.attributes) (joined_attributes p.attributes q.attributes);
            text = λ a b. subst (λ cs. JoinedText w a b cs text) (sym s.attributes) (joined_text_lem w f p g q hp hq a b);
            decides = decides_over v f g text p q j hp hq y s d;
          })

  -- or what is refused
  pub not_joining : (n m : ℕ) → joined w f p.attributes g q.attributes ≡ refused n m → Unjoined w f p g q n m
  not_joining n m e = go verdict e
    where
      as_told : (k l : ℕ) → ◌≡◌ {A = Result Bytes} (refused k l) (refused n m) → Unjoined w f p g q k l → Unjoined w f p g q n m
      as_told k l i u = let (a, b) = refused_refused i in subst (λ x. Unjoined w f p g q x m) a (subst (Unjoined w f p g q k) b u)

      other : (l : ℕ) → FirstOne p.attributes 1 q.attributes l → Unjoined w f p g q 19 l
      other l x =
          let b = x.attribute in
          let good = subst (All GoodAttribute) x.are second_good in
          let on_line : suc (length x.before) ≡ l = omega (arith, x.line) in
          subst (Unjoined w f p g q 19) on_line (attribute_differs x.before x.after b x.are ((differing p.attributes b first_good (all_has GoodAttribute b (Memᴰ.append_right x.before (Memᴰ.head refl)) good)).holds x.other)
          (none_differ p.attributes x.before first_good (all_before GoodAttribute x.before (b ∷ x.after) good) (λ c m. all_has (λ c. any (differs c) p.attributes ≡ false) c m x.none_before)))

      go : {r : Result Bytes} → Verdict r → r ≡ refused n m → Unjoined w f p g q n m
      go (difference l d) i = as_told 19 l i (other l (first_differing_lem p.attributes 1 q.attributes l d))
      go (no_word d x) i = as_told 7 (suc (length attrs)) i (no_such_word attrs (all_alike d) (joined_attributes p.attributes q.attributes) ((word_row set w).holds (ap is_none x)))
      go (not_a_file v k l d x y) i = as_told k l i (not_read attrs v text k l (all_alike d) (joined_attributes p.attributes q.attributes) (allowed v x) (spelled v x) (joined_text_lem w f p g q hp hq) ((refuses text k l).0 y))
      go (a_file v j d x y) i = refused-given (sym i)
