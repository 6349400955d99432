-- Attributes that no two names share: the one of a name, its place, and the value there.
use mathlib.Core.Path.{◌≡◌, refl, sym, ap, ◌∙◌}
use mathlib.Core.Logic.{◌⊎◌, inl, inr}
use Prim.Native.Nat.{ℕ, zero, suc, ◌<◌}
use native.Mathlib.Omega.{arith}
use mathlib.Core.Bool.{true, false}
use mathlib.Core.List.Memᴰ
use mathlib.Core.List.{List, [], ◌∷◌, map, Memᴰ}
use lib.ListN.{length, get_or}
use Rattle.meaning.specs.Text.{Bytes, same_name, repeated}
use Rattle.meaning.specs.Model.{Attribute}
use Rattle.meaning.specs.Deciding.{Request}
use Rattle.meaning.specs.Joining.{declared, place_in}
use Rattle.meaning.specs.Claims.PolicyFile.{attribute_names}
use Rattle.laws.proofs.Bools.{Test, passed, failed, test, contradiction, or_false}
use Rattle.laws.proofs.Search.{any_has}
use Rattle.laws.proofs.Names.{name_alike, name_swap}

-- names are equal either way
pub name_turned : (m n : Bytes) → same_name m n ≡ same_name n m
name_turned m n = go (test (same_name m n)) (test (same_name n m))
  where
    go : Test (same_name m n) → Test (same_name n m) → same_name m n ≡ same_name n m
    go (passed e) i = e ∙ sym (name_swap m n e)
    go (failed e) (passed i) = contradiction (name_swap n m i) e
    go (failed e) (failed i) = e ∙ sym i

-- an attribute of an equal name declares it
pub declares : (n : Bytes) (b : Attribute) {attrs : List Attribute} → Memᴰ b attrs → same_name n b.name ≡ true → declared attrs n ≡ true
declares n b m e = any_has (same_name n) b.name (Memᴰ.map (λ a. a.name) m) e

-- No attribute has a name, or just one
abbrev pub NoneNamed : Bytes → List Attribute → Type 0
NoneNamed n attrs = (c : Attribute) → Memᴰ c attrs → same_name n c.name ≡ false

pub data Once (n : Bytes) : List Attribute → Type 0 where
  here : {c : Attribute} {attrs : List Attribute} → same_name n c.name ≡ true → NoneNamed n attrs → Once n (c ∷ attrs)
  later : {c : Attribute} {attrs : List Attribute} → same_name n c.name ≡ false → Once n attrs → Once n (c ∷ attrs)

pub once : (n : Bytes) (attrs : List Attribute) → declared attrs n ≡ true → repeated (attribute_names attrs) ≡ false → Once n attrs
once n [] h d = contradiction h refl
once n (c ∷ attrs) h d = go (test (same_name n c.name)) (once n attrs)
  where
    apart : (declared attrs c.name ≡ false) × (repeated (attribute_names attrs) ≡ false)
    apart = or_false (declared attrs c.name) (repeated (attribute_names attrs)) d

    other : same_name n c.name ≡ true → (x : Attribute) → Memᴰ x attrs → Test (same_name n x.name) → same_name n x.name ≡ false
    other e x m (passed t) = contradiction (declares c.name x m (sym (name_alike n c.name x.name e) ∙ t)) apart.0
    other e x m (failed t) = t

    go : Test (same_name n c.name) → (declared attrs n ≡ true → repeated (attribute_names attrs) ≡ false → Once n attrs) → Once n (c ∷ attrs)
    go (passed e) rest = here e (λ x m. other e x m (test (same_name n x.name)))
    go (failed e) rest = later e (rest (rw e at h) apart.1)

-- that one
pub same_one : (n : Bytes) (a c : Attribute) {attrs : List Attribute} → Once n attrs → Memᴰ a attrs → Memᴰ c attrs → same_name n a.name ≡ true → same_name n c.name ≡ true → a ≡ c
same_one n a c (here {c = b} {attrs = attrs} e none) k m i j = go (Memᴰ.cases_cons k) (Memᴰ.cases_cons m)
  where
    go : (a ≡ b) ⊎ Memᴰ a attrs → (c ≡ b) ⊎ Memᴰ c attrs → a ≡ c
    go (inl x) (inl y) = x ∙ sym y
    go (inl x) (inr y) = contradiction j (none c y)
    go (inr x) y = contradiction i (none a x)
same_one n a c (later {c = b} {attrs = attrs} e o) k m i j = go (Memᴰ.cases_cons k) (Memᴰ.cases_cons m) (λ x y. same_one n a c o x y i j)
  where
    go : (a ≡ b) ⊎ Memᴰ a attrs → (c ≡ b) ⊎ Memᴰ c attrs → (Memᴰ a attrs → Memᴰ c attrs → a ≡ c) → a ≡ c
    go (inl x) y rest = contradiction (ap (λ z. same_name n z.name) (sym x) ∙ i) e
    go (inr x) (inl y) rest = contradiction (ap (λ z. same_name n z.name) (sym y) ∙ j) e
    go (inr x) (inr y) rest = rest x y

-- Its place, and no other has its name
pub place_named : (n : Bytes) {attrs : List Attribute} → Once n attrs → (place_in attrs n < length attrs) × (same_name n (get_or (attribute_names attrs) (place_in attrs n) []) ≡ true)
place_named n (here {c = c} {attrs = attrs} e none) = rw e (omega arith, e)
place_named n (later {c = c} {attrs = attrs} e o) = let (l, named) = place_named n o in rw e (omega arith, named)

pub place_only : (n : Bytes) {attrs : List Attribute} → Once n attrs → (k : ℕ) → k < length attrs → same_name n (get_or (attribute_names attrs) k []) ≡ true → k ≡ place_in attrs n
place_only n (here {c = c} {attrs = attrs} e none) zero l h = rw e
place_only n (here {c = c} {attrs = attrs} e none) (suc k) l h = contradiction h (at attrs k none (omega arith))
  where
    at : (cs : List Attribute) (k : ℕ) → NoneNamed n cs → k < length cs → same_name n (get_or (attribute_names cs) k []) ≡ false
    at [] k none l = absurd (omega arith)
    at (b ∷ cs) zero none l = none b (Memᴰ.head refl)
    at (b ∷ cs) (suc k) none l = at cs k (λ x m. none x (Memᴰ.tail m)) (omega arith)
place_only n (later {c = c} {attrs = attrs} e o) zero l h = contradiction h e
place_only n (later {c = c} {attrs = attrs} e o) (suc k) l h = rw e (ap suc (place_only n o k (omega arith) h))

-- A request's value at the attribute of a name, and at all of a file's own attributes
abbrev pub value_for : List Attribute → Request → Attribute → ℕ
value_for attrs r a = get_or r (place_in attrs a.name) 0

abbrev pub own_values : (attrs : List Attribute) → Request → (own : List Attribute) → Request
own_values attrs r own = map (value_for attrs r) own

pub own_value : (attrs : List Attribute) (r : Request) (own : List Attribute) (i : ℕ) → i < length own → get_or (own_values attrs r own) i 0 ≡ get_or r (place_in attrs (get_or (attribute_names own) i [])) 0
own_value attrs r [] i l = absurd (omega arith)
own_value attrs r (a ∷ own) zero l = refl
own_value attrs r (a ∷ own) (suc i) l = own_value attrs r own i (omega arith)
