-- Attributes with one more behind them.
use Prim.Native.Nat.{ℕ, zero, suc, ◌+◌, ◌-◌, ◌≤◌, ◌<◌}
use mathlib.Core.Path.{◌≡◌, refl, ap, ◌∙◌, subst⁻¹}
use mathlib.Core.Logic.{⊎_elim}
use mathlib.Core.Bool.{Bool, true}
use mathlib.Core.List.{[], ◌∷◌, ◌++◌}
use native.Mathlib.Nat.{eq-or-lt_of_le}
use native.Mathlib.Omega.{arith}
use lib.ListN.{length, get_or, length-set}
use lib.Seq.{get_or-set_same, get_or-set_other}
use Rattle.meaning.specs.Text.{Bytes, same, cut, tab}
use Rattle.meaning.specs.Model.{Attribute, letter_text}
use Rattle.laws.proofs.Lines.{letter_several}
use Rattle.layout.specs.declared.AttributePlace.{AttributePlace}
use Rattle.layout.specs.declared.Attributes.{Attributes}
use Rattle.layout.specs.Places.{part, nowhere, place_at, attribute_at, attributes_from, attributes_of, Standing, AllStanding, added, line_start, line_place, placed}

-- one attribute more of those that are there
pub from_more : (f : Bytes) (a : Attributes) (i n : ℕ) → attributes_from f a i (suc n) ≡ attributes_from f a i n ++ (attribute_at f a (i + n) ∷ [])
unfolding attributes_from
from_more f a i zero = let e : i + 0 ≡ i = omega arith in rw e
from_more f a i (suc n) = let e : (i + 1) + n ≡ i + suc n = omega arith in ap (λ l. attribute_at f a i ∷ l) (from_more f a (i + 1) n ∙ rw e)

-- attributes that have the same places below the end
from_alike : (f : Bytes) (a b : Attributes) (i n : ℕ) → ((k : ℕ) → k < i + n → attribute_at f b k ≡ attribute_at f a k) → attributes_from f b i n ≡ attributes_from f a i n
unfolding attributes_from
from_alike f a b i zero h = refl
from_alike f a b i (suc n) h = rw (h i (omega arith), from_alike f a b (i + 1) n (λ k l. h k (omega arith)))

-- the attribute that stands there
abbrev pub attribute_of : Bytes → AttributePlace → Attribute
attribute_of f p = record { several = p.several; name = part f p.name (p.values - 1); values = cut tab (part f p.values p.end) }

-- what one attribute more does to those of any file
pub record Added (a : Attributes) (p : AttributePlace) (b : Attributes) : Type 0 where
  pub one_more : b.len ≡ a.len + 1
  pub behind : (f : Bytes) → attributes_of f b ≡ attributes_of f a ++ (attribute_of f p ∷ [])
  pub standing : (f : Bytes) → AllStanding f a → p.name < p.values → p.values ≤ p.end → p.end ≤ length f → p.count ≡ length (cut tab (part f p.values p.end)) → AllStanding f b
  pub few_values : (most : ℕ) → ((i : ℕ) → i < a.len → (place_at a i).count ≤ most) → p.count ≤ most → (i : ℕ) → i < b.len → (place_at b i).count ≤ most

module _ (a : Attributes) (p : AttributePlace) where
  abbrev more : Attributes
  more = added a p

  module _ (room : a.len < length a.all) where
    old : (k : ℕ) → k < a.len → place_at more k ≡ place_at a k
    old k l = get_or-set_other a.all a.len k p nowhere (λ e. omega arith)

    new : (k : ℕ) → k ≡ a.len → place_at more k ≡ p
    new k e = rw e (get_or-set_same a.all a.len p nowhere room)

    behind : (f : Bytes) → attributes_of f more ≡ attributes_of f a ++ (attribute_of f p ∷ [])
    behind f =
        let size : a.len + 1 ≡ suc a.len = omega arith in
        let here : 0 + a.len ≡ a.len = omega arith in
        ap (attributes_from f more 0) size
        ∙ from_more f more 0 a.len
        ∙ rw (here, new a.len refl, from_alike f a more 0 a.len (λ k l. ap (attribute_of f) (old k (omega arith))))

    abbrev Stands : Bytes → AttributePlace → Type 0
    Stands f q = (q.name < q.values) × (q.values ≤ q.end) × (q.end ≤ length f) × (q.count ≡ length (cut tab (part f q.values q.end)))

    standing : (f : Bytes) (k : ℕ) → Stands f (place_at more k) → Standing f more k
    standing f k s = record { name = s.0; line = s.1; inside = s.2; count = s.3 }

    pub added_behind : a.len < 6 → {b : Attributes} → b ≡ more → Added a p b
    added_behind few is =
        subst⁻¹ (Added a p) is (record {
          one_more = refl;
          behind = behind;
          standing = λ f all named line inside counted. record {
            few = omega arith;
            each = λ k l. ⊎_elim (λ e. standing f k (subst⁻¹ (Stands f) (new k e) (named, line, inside, counted))) (λ below. let s = all.each k below in standing f k (subst⁻¹ (Stands f) (old k below) (s.name, s.line, s.inside, s.count))) (eq-or-lt_of_le (last k l));
          };
          few_values = λ most those this k l. ⊎_elim (λ e. rw (new k e) this) (λ below. rw (old k below) (those k below)) (eq-or-lt_of_le (last k l));
        })
      where
        last : (k : ℕ) → k < a.len + 1 → k ≤ a.len
        last k l = omega arith

pub placed_six : (f : Bytes) (n : ℕ) → length (placed f n).all ≡ 6
unfolding placed
placed_six f zero = refl
placed_six f (suc n) = simp length-set (placed_six f n)

-- the attribute of the next line of a file, of these fields
pub placed_more : (f : Bytes) (k at end fields : ℕ) (several : Bool) (name : Bytes) (a : Attributes) → a ≡ placed f k → at ≡ line_start f k → end + 1 ≡ line_start f (suc k) → get_or (cut tab (part f at end)) 0 [] ≡ letter_text several
    → name ≡ get_or (cut tab (part f at end)) 1 [] → fields ≡ length (cut tab (part f at end)) → added a (line_place at end several name fields) ≡ placed f (suc k)
unfolding placed
placed_more f k at end fields several name a is starts ends letter named count =
    let last : end ≡ line_start f (suc k) - 1 = omega arith in
    let is_several : same (get_or (cut tab (part f at end)) 0 []) (letter_text true) ≡ several = rw letter (letter_several several) in
    rw (is, named, count, ← is_several, starts, last)
