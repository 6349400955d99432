-- A file's own attributes among the joined ones: each stands there once, with the same letter and values.
use mathlib.Core.Path.{◌≡◌, refl, sym, ap, ap₂, ◌∙◌, subst}
use mathlib.Core.Logic.{◌⊎◌, inl, inr}
use Prim.Native.Nat.{ℕ, suc, ◌≤◌, ◌<◌}
use native.Mathlib.Omega.{arith}
use mathlib.Core.Bool.{Bool, true, false, not, ◌&&◌}
use mathlib.Core.List.{List, [], ◌∷◌, Memᴰ}
use mathlib.Core.Option.{none}
use lib.ListN.{length}
use borrow.Author.Tests.{not-false}
use Rattle.meaning.specs.Text.{Bytes, any, all, same, same_name, repeated, cut, join, tab, is_name}
use Rattle.meaning.specs.Model.{Attribute, choices, choices_of, sizes, letter_text}
use Rattle.meaning.specs.Deciding.{Request}
use Rattle.meaning.specs.Joining.{declared, both, differs, first_differing}
use Rattle.meaning.specs.Claims.Texts.{All}
use Rattle.meaning.specs.Claims.PolicyFile.{GoodAttribute, attribute_names}
use Rattle.laws.proofs.Bools.{Test, passed, failed, test, contradiction, and_true}
use Rattle.laws.proofs.Search.{none-some, keep_has, any_has, any_only}
use Rattle.laws.proofs.Text.{one_or_more, same_true, names_free}
use Rattle.laws.proofs.Names.{name_refl}
use Rattle.laws.proofs.Bounds.{all_has}
use Rattle.laws.proofs.BadFields.{letter_same}
use Rattle.laws.proofs.Chosen.{cut_again}
use Rattle.laws.proofs.Requests.{Fits}
use Rattle.laws.proofs.OwnNames.{declares, Once, here, later, once, same_one, value_for, own_values}

-- The same letter, and the same values to the byte and in order
abbrev pub Agree : Attribute → Attribute → Type 0
Agree a c = (c.several ≡ a.several) × (c.values ≡ a.values)

pub record Stands (own attrs : List Attribute) : Type 0 where
  pub each_once : (a : Attribute) → Memᴰ a own → Once a.name attrs
  pub agree : (a c : Attribute) → Memᴰ a own → Memᴰ c attrs → same_name a.name c.name ≡ true → Agree a c

agree_self : (a c : Attribute) → a ≡ c → Agree a c
agree_self a c e = (ap (λ x. x.several) (sym e), ap (λ x. x.values) (sym e))

-- Attributes of equal name that do not differ agree
pub cut_values : (a : Attribute) → GoodAttribute a → cut tab (join tab a.values) ≡ a.values
cut_values a g = go a.values g.some_value g.values_named
  where
    go : (vs : List Bytes) → 1 ≤ length vs → all is_name vs ≡ true → cut tab (join tab vs) ≡ vs
    go [] l h = absurd (omega arith)
    go (v ∷ vs) l h = cut_again tab (one_or_more v vs) (names_free tab (v ∷ vs) refl h)

same_declared : (b a : Attribute) → GoodAttribute b → GoodAttribute a → same_name b.name a.name ≡ true → differs b a ≡ false → Agree b a
same_declared b a gb ga e h =
    let letters : Bool = same (letter_text b.several) (letter_text a.several) in
    let values : Bool = same (join tab b.values) (join tab a.values) in
    let t : not (letters && values) ≡ false = rw e at h in
    let (l, v) = and_true letters values (not-false (letters && values) t) in (
      sym (letter_same b.several a.several (same_true (letter_text b.several) (letter_text a.several) l)),
      sym (cut_values a ga) ∙ ap (cut tab) (sym (same_true (join tab b.values) (join tab a.values) v)) ∙ cut_values b gb,
    )

pub no_difference : (first : List Attribute) (n : ℕ) (second : List Attribute) → first_differing first n second ≡ none → (b : Attribute) → Memᴰ b second → any (differs b) first ≡ false
no_difference first n [] h b m = absurd (mathlib.Core.List.Memᴰ.not-nil m)
no_difference first n (x ∷ xs) h b m = go (test (any (differs x) first)) (mathlib.Core.List.Memᴰ.cases_cons m) (no_difference first (suc n) xs)
  where
    go : Test (any (differs x) first) → (b ≡ x) ⊎ Memᴰ b xs → (first_differing first (suc n) xs ≡ none → (b : Attribute) → Memᴰ b xs → any (differs b) first ≡ false) → any (differs b) first ≡ false
    go (passed t) i rest = none-some (sym (rw t at h))
    go (failed t) (inl e) rest = rw e t
    go (failed t) (inr i) rest = rest (rw t at h) b i

-- The first file's attributes, and then the second's
module _ (first second : List Attribute) (apart : repeated (attribute_names (both first second)) ≡ false) where
  abbrev attrs : List Attribute
  attrs = both first second

  there_once : (n : Bytes) (b : Attribute) → Memᴰ b attrs → same_name n b.name ≡ true → Once n attrs
  there_once n b m e = once n attrs (declares n b m e) apart

  itself : (a : Attribute) → Memᴰ a attrs → Once a.name attrs × ((c : Attribute) → Memᴰ c attrs → same_name a.name c.name ≡ true → Agree a c)
  itself a m =
      let one = there_once a.name a m (name_refl a.name) in
      (one, λ c k e. agree_self a c (same_one a.name a c one m k (name_refl a.name) e))

  pub first_stands : Stands first attrs
  first_stands = record { each_once = λ a m. (itself a (mathlib.Core.List.Memᴰ.append_left _ m)).0; agree = λ a c m k e. (itself a (mathlib.Core.List.Memᴰ.append_left _ m)).1 c k e }

  module _ (good-first : All GoodAttribute first) (good-second : All GoodAttribute second) (none_differ : first_differing first 1 second ≡ none) where
    agrees : (a b : Attribute) → Memᴰ a second → Memᴰ b first → same_name a.name b.name ≡ true → Agree a b
    agrees a b m k e = same_declared a b (all_has GoodAttribute a m good-second) (all_has GoodAttribute b k good-first) e (go (test (differs a b)))
      where
        go : Test (differs a b) → differs a b ≡ false
        go (passed t) = contradiction (any_has (differs a) b k t) (no_difference first 1 second none_differ a m)
        go (failed t) = t

    of_second : (a : Attribute) → Memᴰ a second → Test (declared first a.name) → Once a.name attrs × ((c : Attribute) → Memᴰ c attrs → same_name a.name c.name ≡ true → Agree a c)
    of_second a m (failed t) = itself a (mathlib.Core.List.Memᴰ.append_right first (keep_has (λ b. not (declared first b.name)) a m (rw t)))
    of_second a m (passed t) =
        let (n, k, e) = any_only (same_name a.name) (attribute_names first) t in
        let (b, i, x) = mathlib.Core.List.Memᴰ.of_map (λ b. b.name) first k in
        let named : same_name a.name b.name ≡ true = ap (same_name a.name) x ∙ e in
        let there : Memᴰ b attrs = mathlib.Core.List.Memᴰ.append_left _ i in
        let one = there_once a.name b there named in
        (one, λ c j h. subst (Agree a) (same_one a.name b c one there j named h) (agrees a b m i named))

    pub second_stands : Stands second attrs
    second_stands = record { each_once = λ a m. (of_second a m (test (declared first a.name))).0; agree = λ a c m k e. (of_second a m (test (declared first a.name))).1 c k e }

-- The values at a file's own attributes are of them
value_fits : (a : Attribute) (attrs : List Attribute) (r : Request) → Once a.name attrs → Fits (sizes attrs) r → ((c : Attribute) → Memᴰ c attrs → same_name a.name c.name ≡ true → Agree a c) → value_for attrs r a < choices a
value_fits a attrs [] (here {attrs = more} e n) f h = absurd f
value_fits a attrs (v ∷ r) (here {c = c} {attrs = more} e n) f h =
    let (letter, values) = h c (mathlib.Core.List.Memᴰ.head refl) e in
    rw e (subst (λ k. v < k) (ap₂ (λ b vs. choices_of b (length vs)) letter values) f.0)
value_fits a attrs [] (later {attrs = more} e o) f h = absurd f
value_fits a attrs (v ∷ r) (later {c = c} {attrs = more} e o) f h = rw e (value_fits a more r o f.1 (λ x m. h x (mathlib.Core.List.Memᴰ.tail m)))

pub own_fits : (own attrs : List Attribute) (r : Request) → Stands own attrs → Fits (sizes attrs) r → Fits (sizes own) (own_values attrs r own)
own_fits own attrs r s f = go own (λ a m. m)
  where
    go : (xs : List Attribute) → ((a : Attribute) → Memᴰ a xs → Memᴰ a own) → Fits (sizes xs) (own_values attrs r xs)
    go [] h = tt
    go (a ∷ xs) h =
        let m = h a (mathlib.Core.List.Memᴰ.head refl) in
        (value_fits a attrs r (s.each_once a m) f (λ c k. s.agree a c m k), go xs (λ b k. h b (mathlib.Core.List.Memᴰ.tail k)))
