-- The search for a name, place by place.
use Prim.Native.Nat.{ℕ, zero, suc, ◌+◌, ◌-◌, ◌≤◌, ◌<◌}
use mathlib.Core.Path.{◌≡◌, refl, sym, ap, ◌∙◌}
use mathlib.Core.Bool.{Bool, true, false, not, cond}
use mathlib.Core.List.{List, [], ◌∷◌}
use mathlib.Core.Option.{Option as Maybe, none, some}
use Rattle.std.specs.Prelude.{Some, None, is_some}
use native.Mathlib.Nat.{sub-zero, add-zero}
use native.Mathlib.Omega.{arith}
use Rattle.meaning.specs.Text.{Bytes, is_none, last_below, same_name, among_names}
use Rattle.meaning.specs.Model.{Attribute}
use Rattle.meaning.specs.Joining.{declared, place_in}
use Rattle.layout.specs.declared.Attributes.{Attributes}
use Rattle.laws.proofs.Bools.{Test, passed, failed, test}
use Rattle.laws.specs.Found.{found}
use Rattle.layout.specs.declared.ElementPlaces.{ElementPlaces}
use Rattle.layout.specs.Places.{attribute_at, attributes_from, attributes_of, place_named, names_to, has_name}

-- the attributes from i on: none, or the one there and those behind it
module _ (f : Bytes) (a : Attributes) (i : ℕ) where
  pub attributes_end : a.len ≤ i → attributes_from f a i (a.len - i) ≡ []
  unfolding attributes_from
  attributes_end l = let none : a.len - i ≡ 0 = omega arith in rw none

  pub attributes_next : i < a.len → attributes_from f a i (a.len - i) ≡ attribute_at f a i ∷ attributes_from f a (i + 1) (a.len - (i + 1))
  unfolding attributes_from
  attributes_next l = let more : a.len - i ≡ suc (a.len - (i + 1)) = omega arith in rw more

-- The search for an attribute's name: it goes on with those from i on
module _ (f : Bytes) (a : Attributes) (name : Bytes) where
  abbrev rest : ℕ → List Attribute
  rest i = attributes_from f a i (a.len - i)

  pub record Searched (i : ℕ) : Type 0 where
    pub known : declared (attributes_of f a) name ≡ declared (rest i) name
    pub place : place_in (attributes_of f a) name ≡ i + place_in (rest i) name

  pub search_starts : Searched 0
  search_starts = record { known = rw sub-zero; place = rw sub-zero (omega arith) }

  module _ {i : ℕ} (s : Searched i) where
    pub search_ends : a.len ≤ i → None ≡ place_named (attributes_of f a) name
    search_ends l = sym (rw (s.known ∙ ap (λ bs. declared bs name) (attributes_end f a i l)))

    module _ (l : i < a.len) where
      known_here : declared (attributes_of f a) name ≡ declared (attribute_at f a i ∷ rest (i + 1)) name
      known_here = s.known ∙ ap (λ bs. declared bs name) (attributes_next f a i l)

      place_here : place_in (attributes_of f a) name ≡ i + place_in (attribute_at f a i ∷ rest (i + 1)) name
      place_here = s.place ∙ ap (λ bs. i + place_in bs name) (attributes_next f a i l)

      pub search_finds : same_name name (attribute_at f a i).name ≡ true → Some i ≡ place_named (attributes_of f a) name
      search_finds hit =
          let known : declared (attributes_of f a) name ≡ true = known_here ∙ rw hit in
          let place : place_in (attributes_of f a) name ≡ i = place_here ∙ rw hit (add-zero i) in
          sym (rw (known, place))

      pub search_passes : same_name name (attribute_at f a i).name ≡ false → Searched (i + 1)
      search_passes miss = record { known = known_here ∙ rw miss; place = place_here ∙ rw miss (omega arith) }

-- whether there is a place says whether the name is declared
pub place_told : (b : Bool) (i : ℕ) → is_some (cond b (Some i) None) ≡ b
place_told true i = refl
place_told false i = refl

-- a name is among those of n elements if one of them has it, and then the last that has it is one of them
module _ (f name : Bytes) (places : List ElementPlaces) where
  among_is : (n : ℕ) → among_names name (names_to f places n) ≡ not (is_none (last_below (has_name f places name) n))
  unfolding names_to
  among_is zero = refl
  among_is (suc n) = go (test (has_name f places name n)) (among_is n)
    where
      go : Test (has_name f places name n) → among_names name (names_to f places n) ≡ not (is_none (last_below (has_name f places name) n)) → among_names name (names_to f places (suc n)) ≡ not (is_none (last_below (has_name f places name) (suc n)))
      go (passed e) earlier = rw e
      go (failed e) earlier = rw e earlier

  pub among_named : (n : ℕ) → is_some (found (last_below (has_name f places name) n)) ≡ among_names name (names_to f places n)
  among_named n = go (last_below (has_name f places name) n) ∙ sym (among_is n)
    where
      go : (o : Maybe ℕ) → is_some (found o) ≡ not (is_none o)
      go none = refl
      go (some i) = refl
