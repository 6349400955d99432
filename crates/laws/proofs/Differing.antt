-- The attributes of two files joined, and those of equal name that differ.
use mathlib.Core.Path.{◌≡◌, refl, sym, ap, ◌∙◌}
use mathlib.Core.Logic.{◌≢◌, ◌⊎◌, inl, inr}
use Prim.Native.Nat.{ℕ, suc, ◌+◌}
use native.Mathlib.Omega.{arith}
use mathlib.Core.Bool.{Bool, true, false, not, ◌&&◌}
use mathlib.Core.List.{List, [], ◌∷◌, ◌++◌, Memᴰ}
use mathlib.Core.Option.{some}
use lib.ListN.{length}
use borrow.Author.Tests.{not-true}
use Rattle.meaning.specs.Text.{any, keep, same, same_name, cut, join, tab}
use Rattle.meaning.specs.Model.{Attribute, letter_text}
use Rattle.meaning.specs.Joining.{declared, both, differs, first_differing}
use Rattle.meaning.specs.Claims.Texts.{All, EqualNames}
use Rattle.meaning.specs.Claims.PolicyFile.{GoodAttribute, attribute_names}
use Rattle.meaning.specs.Claims.Joining.{Alone, no_more, one, follows, JoinedAttributes, Differing}
use Rattle.laws.proofs.Bools.{Test, passed, failed, test, contradiction, and_true}
use Rattle.laws.proofs.Search.{none-some, some_some, any_has, any_only}
use Rattle.laws.proofs.Reflects.{Reflects, reflects, restated, same_text}
use Rattle.laws.proofs.Names.{equal_names, among, not_among}
use Rattle.laws.proofs.Bounds.{all_has}
use Rattle.laws.proofs.Standing.{cut_values}
use Rattle.laws.proofs.BadFields.{letter_same}

-- Those of the second file alone
alone : (first second : List Attribute) → Alone first second (keep (λ b. not (declared first b.name)) second)
alone first [] = no_more
alone first (b ∷ bs) = go (test (declared first b.name)) (alone first bs)
  where
    go : Test (declared first b.name) → Alone first bs (keep (λ b. not (declared first b.name)) bs) → Alone first (b ∷ bs) (keep (λ b. not (declared first b.name)) (b ∷ bs))
    go (passed e) later = rw e (one b bs _ ((among b.name (attribute_names first)).holds e) later)
    go (failed e) later = rw e (follows b bs _ (not_among b.name (attribute_names first) e) later)

pub joined_attributes : (first second : List Attribute) → JoinedAttributes first second (both first second)
joined_attributes first second = record { alone = keep (λ b. not (declared first b.name)) second; of_second = alone first second; are = refl }

-- A test for each way to differ
abbrev Differ : Attribute → Attribute → Type 0
Differ b a = EqualNames b.name a.name × ((b.several ≢ a.several) ⊎ (b.values ≢ a.values))

abbrev same_letter : Attribute → Attribute → Bool
same_letter b a = same (letter_text b.several) (letter_text a.several)

abbrev same_values : Attribute → Attribute → Bool
same_values b a = same (join tab b.values) (join tab a.values)

module _ (b a : Attribute) (h : GoodAttribute b) (g : GoodAttribute a) where
  same_letter_lem : Reflects (same_letter b a) (b.several ≡ a.several)
  same_letter_lem = restated _ _ _ (letter_same b.several a.several) (ap letter_text) (same_text (letter_text b.several) (letter_text a.several))

  same_values_lem : Reflects (same_values b a) (b.values ≡ a.values)
  same_values_lem = restated _ _ _ (λ e. sym (cut_values b h) ∙ ap (cut tab) e ∙ cut_values a g) (ap (join tab)) (same_text (join tab b.values) (join tab a.values))

  differ : Reflects (differs b a) (Differ b a)
  differ = reflects (differs b a) (Differ b a) there back
    where
      which : Test (same_letter b a) → Test (same_values b a) → (same_letter b a && same_values b a) ≡ false → (b.several ≢ a.several) ⊎ (b.values ≢ a.values)
      which (failed x) y e = inl (λ i. contradiction (same_letter_lem.tests i) x)
      which (passed x) (failed y) e = inr (λ i. contradiction (same_values_lem.tests i) y)
      which (passed x) (passed y) e = contradiction (rw (x, y)) e

      there : differs b a ≡ true → Differ b a
      there e =
          let (named, other) = and_true (same_name b.name a.name) (not (same_letter b a && same_values b a)) e in
          ((equal_names b.name a.name).holds named, which (test (same_letter b a)) (test (same_values b a)) (not-true (same_letter b a && same_values b a) other))

      apart : (same_letter b a && same_values b a) ≡ true → (b.several ≢ a.several) ⊎ (b.values ≢ a.values) → ⊥
      apart x (inl o) = o (same_letter_lem.holds (and_true (same_letter b a) (same_values b a) x).0)
      apart x (inr o) = o (same_values_lem.holds (and_true (same_letter b a) (same_values b a) x).1)

      go : Test (same_letter b a && same_values b a) → differs b a ≡ false → Differ b a → ⊥
      go (passed x) e d = apart x d.1
      go (failed x) e d = contradiction (rw ((equal_names b.name a.name).tests d.0, x)) e

      back : differs b a ≡ false → Differ b a → ⊥
      back e d = go (test (same_letter b a && same_values b a)) e d

pub differing : (first : List Attribute) (b : Attribute) → All GoodAttribute first → GoodAttribute b → Reflects (any (differs b) first) (Differing first b)
differing first b g h = record {
  holds = λ e.
      let (a, m, d) = any_only (differs b) first e in
      let (named, other) = (differ b a h (all_has GoodAttribute a m g)).holds d in
      record { other = a; of_first = m; equal_names = named; differs = other };
  tests = λ d. any_has (differs b) d.other d.of_first ((differ b d.other h (all_has GoodAttribute d.other d.of_first g)).tests (d.equal_names, d.differs));
}

-- The first that differs, on its line
pub record FirstOne (first : List Attribute) (n : ℕ) (second : List Attribute) (m : ℕ) : Type 0 where
  pub before : List Attribute
  pub attribute : Attribute
  pub after : List Attribute
  pub are : second ≡ before ++ (attribute ∷ after)
  pub line : m ≡ n + length before
  pub other : any (differs attribute) first ≡ true
  pub none_before : All (λ b. any (differs b) first ≡ false) before

pub first_differing_lem : (first : List Attribute) (n : ℕ) (second : List Attribute) (m : ℕ) → first_differing first n second ≡ some m → FirstOne first n second m
first_differing_lem first n [] m h = none-some h
first_differing_lem first n (b ∷ bs) m h = go (test (any (differs b) first)) (first_differing_lem first (suc n) bs m)
  where
    go : Test (any (differs b) first) → (first_differing first (suc n) bs ≡ some m → FirstOne first (suc n) bs m) → FirstOne first n (b ∷ bs) m
    go (passed e) later = let i : n ≡ m = some_some (rw e at h) in record { before = []; attribute = b; after = bs; are = refl; line = omega (arith, i); other = e; none_before = tt }
    go (failed e) later =
        let x = later (rw e at h) in
        record { before = b ∷ x.before; attribute = x.attribute; after = x.after; are = ap (λ l. b ∷ l) x.are; line = omega (arith, x.line); other = x.other; none_before = (e, x.none_before) }

-- None differs
pub none_differ : (first second : List Attribute) → All GoodAttribute first → All GoodAttribute second → ((b : Attribute) → Memᴰ b second → any (differs b) first ≡ false) → (b : Attribute) → Memᴰ b second → Differing first b → ⊥
none_differ first second g h n b m d = contradiction ((differing first b g (all_has GoodAttribute b m h)).tests d) (n b m)
