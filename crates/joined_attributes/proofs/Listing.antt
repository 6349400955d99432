-- Places listed one behind the other.
use mathlib.Core.Path.{◌≡◌, refl, sym, ap, ◌∙◌}
use mathlib.Core.Bool.{Bool, true, false, not}
use mathlib.Core.List.{List, [], ◌∷◌, ◌++◌, map-append, append_assoc, append-nil}
use Prim.Native.Nat.{ℕ, suc, ◌+◌, ◌-◌, ◌≤◌, ◌<◌}
use native.Mathlib.Numerals.{add-one}
use native.Mathlib.Omega.{arith}
use lib.ListN.{length, set, replicate, length-append, length-map}
use Rattle.std.specs.Option.{unwrap_or}
use Rattle.meaning.specs.Text.{Bytes, same_name, keep}
use Rattle.meaning.specs.Model.{Attribute, padded}
use Rattle.meaning.specs.Joining.{declared, both, place_in}
use Rattle.laws.proofs.Bools.{Test, passed, failed, test}
use Rattle.layout.specs.declared.Attributes.{Attributes}
use Rattle.layout.specs.Places.{place_named, attribute_at, attributes_from}
use Rattle.layout.proofs.Laws.{attributes_from_length}
use Rattle.layout.proofs.Adding.{from_more}
use Rattle.joined_attributes.specs.declared.Placing.{Placing}
use Rattle.joined_attributes.specs.Placing.{listed, places_in}

-- the place of a name, or their count where none has it
pub place_or_count : (attrs : List Attribute) (n : Bytes) → unwrap_or (place_named attrs n) (length attrs) ≡ place_in attrs n
place_or_count [] n = refl
place_or_count (a ∷ attrs) n = go (test (same_name n a.name)) (test (declared attrs n)) (place_or_count attrs n)
  where
    go : Test (same_name n a.name) → Test (declared attrs n) → unwrap_or (place_named attrs n) (length attrs) ≡ place_in attrs n → unwrap_or (place_named (a ∷ attrs) n) (length (a ∷ attrs)) ≡ place_in (a ∷ attrs) n
    go (passed e) d later = rw e
    go (failed e) (passed d) later = rw (e, d)
    go (failed e) (failed d) later = rw (e, d) (ap suc (rw d at later))

-- the first zero behind some places becomes one more
set_behind : (ns : List ℕ) (k n : ℕ) → set (ns ++ replicate (suc k) 0) (length ns) n ≡ (ns ++ (n ∷ [])) ++ replicate k 0
set_behind [] k n = refl
set_behind (m ∷ ns) k n = ap (λ l. m ∷ l) (set_behind ns k n)

pub listed_more : (p : Placing) (ns : List ℕ) (n : ℕ) → p ≡ listed ns → length ns < 12 → record { places = set p.places p.len n; len = p.len + 1 } ≡ listed (ns ++ (n ∷ []))
listed_more p ns n e l =
    let room : 12 - length ns ≡ suc (12 - length (ns ++ (n ∷ []))) = omega (arith, length-append ns (n ∷ [])) in
    let places : set p.places p.len n ≡ padded 12 (ns ++ (n ∷ [])) =
    ap (λ x. set x.places x.len n) e ∙ ap (λ k. set (ns ++ replicate k 0) (length ns) n) room ∙ set_behind ns (12 - length (ns ++ (n ∷ []))) n in
    let len : p.len + 1 ≡ length (ns ++ (n ∷ [])) = omega (arith, ap (λ x. x.len) e, length-append ns (n ∷ [])) in
    λ i. record { places = places i; len = len i }

keep_few : {A : Type 0} (t : A → Bool) (xs : List A) → length (keep t xs) ≤ length xs
keep_few t [] = omega arith
keep_few t (x ∷ xs) = go (test (t x)) (keep_few t xs)
  where
    go : Test (t x) → length (keep t xs) ≤ length xs → length (keep t (x ∷ xs)) ≤ length (x ∷ xs)
    go (passed e) later = rw e (omega arith)
    go (failed e) later = rw e (omega arith)

-- what a test keeps of some and one more
module _ {A : Type 0} (t : A → Bool) (x : A) where
  pub keep_more : (xs : List A) → t x ≡ true → keep t (xs ++ (x ∷ [])) ≡ keep t xs ++ (x ∷ [])
  keep_more [] e = rw e
  keep_more (y ∷ ys) e = go (test (t y)) (keep_more ys e)
    where
      go : Test (t y) → keep t (ys ++ (x ∷ [])) ≡ keep t ys ++ (x ∷ []) → keep t (y ∷ ys ++ (x ∷ [])) ≡ keep t (y ∷ ys) ++ (x ∷ [])
      go (passed h) later = rw h (ap (λ l. y ∷ l) later)
      go (failed h) later = rw h later

  pub keep_same : (xs : List A) → t x ≡ false → keep t (xs ++ (x ∷ [])) ≡ keep t xs
  keep_same [] e = rw e
  keep_same (y ∷ ys) e = go (test (t y)) (keep_same ys e)
    where
      go : Test (t y) → keep t (ys ++ (x ∷ [])) ≡ keep t ys → keep t (y ∷ ys ++ (x ∷ [])) ≡ keep t (y ∷ ys)
      go (passed h) later = rw h (ap (λ l. y ∷ l) later)
      go (failed h) later = rw h later

-- The attributes of a file up to place i, and the one at i behind them
module _ (f : Bytes) (a : Attributes) where
  from_next : (i : ℕ) → attributes_from f a 0 (i + 1) ≡ attributes_from f a 0 i ++ (attribute_at f a i ∷ [])
  from_next i =
      let here : 0 + i ≡ i = omega arith in
      ap (attributes_from f a 0) (add-one i) ∙ from_more f a 0 i ∙ ap (λ k. attributes_from f a 0 i ++ (attribute_at f a k ∷ [])) here

  module _ (own : List Attribute) where
    pub none_listed : record { places = replicate 12 0; len = 0 } ≡ listed (places_in own (attributes_from f a 0 0))
    unfolding attributes_from
    none_listed = refl

    pub places_count : (i : ℕ) → length (places_in own (attributes_from f a 0 i)) ≡ i
    places_count i = length-map (attributes_from f a 0 i) (λ c. place_in own c.name) ∙ attributes_from_length f a 0 i

    -- one more place is listed
    module _ {p : Placing} {n i : ℕ} (few : i < 12) (is : n ≡ place_in own (attribute_at f a i).name) where
      pub attribute_listed : p ≡ listed (places_in own (attributes_from f a 0 i)) → record { places = set p.places p.len n; len = p.len + 1 } ≡ listed (places_in own (attributes_from f a 0 (i + 1)))
      attribute_listed e =
          listed_more p (places_in own (attributes_from f a 0 i)) n e (omega (arith, places_count i))
          ∙ ap listed (ap (λ m. places_in own (attributes_from f a 0 i) ++ (m ∷ [])) is
          ∙ sym (ap (places_in own) (from_next i) ∙ map-append (λ c. place_in own c.name) (attributes_from f a 0 i) (attribute_at f a i ∷ [])))

    -- the same of those whose names some others lack, behind these
    module _ (first : List Attribute) where
      abbrev pub both_to : ℕ → List Attribute
      both_to j = both first (attributes_from f a 0 j)

      pub first_listed : {p : Placing} → p ≡ listed (places_in own first) → p ≡ listed (places_in own (both_to 0))
      unfolding attributes_from
      first_listed e = e ∙ ap (λ cs. listed (places_in own cs)) (sym (append-nil first))

      pub both_count : (j : ℕ) → length (places_in own (both_to j)) ≤ length first + j
      both_count j =
          omega (arith, length-map (both_to j) (λ c. place_in own c.name), length-append first (keep (λ b. not (declared first b.name)) (attributes_from f a 0 j)), keep_few (λ b. not (declared first b.name)) (attributes_from f a 0 j), attributes_from_length f a 0 j)

      pub known_passed : {p : Placing} (j : ℕ) → declared first (attribute_at f a j).name ≡ true → p ≡ listed (places_in own (both_to j)) → p ≡ listed (places_in own (both_to (j + 1)))
      known_passed j known e =
          e ∙ ap (λ cs. listed (places_in own (first ++ cs))) (sym (ap (keep (λ b. not (declared first b.name))) (from_next j) ∙ keep_same (λ b. not (declared first b.name)) (attribute_at f a j) (attributes_from f a 0 j) (rw known)))

      pub alone_listed : {p : Placing} {n : ℕ} (j : ℕ) → length first + j < 12 → declared first (attribute_at f a j).name ≡ false → n ≡ place_in own (attribute_at f a j).name → p ≡ listed (places_in own (both_to j))
          → record { places = set p.places p.len n; len = p.len + 1 } ≡ listed (places_in own (both_to (j + 1)))
      alone_listed {p} {n} j few alone is e =
          let before = keep (λ b. not (declared first b.name)) (attributes_from f a 0 j) in
          let behind : both_to (j + 1) ≡ both_to j ++ (attribute_at f a j ∷ []) =
          ap (λ cs. first ++ cs) (ap (keep (λ b. not (declared first b.name))) (from_next j) ∙ keep_more (λ b. not (declared first b.name)) (attribute_at f a j) (attributes_from f a 0 j) (rw alone))
          ∙ sym (append_assoc first before (attribute_at f a j ∷ [])) in
          listed_more p (places_in own (both_to j)) n e (omega (arith, both_count j))
          ∙ ap listed (ap (λ m. places_in own (both_to j) ++ (m ∷ [])) is ∙ sym (ap (places_in own) behind ∙ map-append (λ c. place_in own c.name) (both_to j) (attribute_at f a j ∷ [])))
